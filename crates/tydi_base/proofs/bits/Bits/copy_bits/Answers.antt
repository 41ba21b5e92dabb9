use Rattle.std.proofs.Common.{◌≡◌, ◌∙◌, ap, drop, length, take}
use Rattle.std.specs.List.{refill}
use Rattle.tydi_base.specs.Bits.{unpack, written_at}
use Rattle.tydi_base.proofs.SliceLemmas.{Copied, copied}
use Rattle.tydi_base.proofs.bits.Bits.copy_bits.Goals as goal
use Rattle.tydi_base.proofs.bits.Bits.copy_bits.Goals.{After-copy_bits}

told : (c : After-copy_bits)
    → Copied c.self.inside.len c.args.at (refill (length c.self.inside.bytes.items) c.self.inside.bytes.items c.copy_bits.new.bytes)
    (take c.args.count (drop c.args.from c.args.source.now)) c.args.self.now
told c =
    let bytes = c.as_mut_slice-bytes.ensures.value
    in let written : unpack c.copy_bits.new.bytes
    ≡ written_at c.args.at (take c.args.count (drop c.args.from (unpack c.source.inside.bytes.items))) (unpack c.self.inside.bytes.items) =
    c.copy_bits.ensures
    ∙ ap (λ source. written_at c.args.at (take c.args.count (drop c.args.from (unpack source))) (unpack c.as_mut_slice-bytes.result.now)) c.as_slice.ensures
    ∙ ap (λ old. written_at c.args.at (take c.args.count (drop c.args.from (unpack c.source.inside.bytes.items))) (unpack old)) bytes
    in copied c.self.inside.len c.source.inside.len c.args.at c.args.from c.args.count c.self.inside.bytes.items c.copy_bits.new.bytes
    c.source.inside.bytes.items c.args.self.now c.args.source.now c.self.invariant c.self.view_is c.source.invariant c.source.view_is
    c.requires.room c.requires.within (c.copy_bits.auto.bytes ∙ ap length bytes) written

pub invariant_of-self : goal.invariant_of-self
invariant_of-self c = (told (goal.at.invariant_of-self c).After-copy_bits).packed

pub returns : goal.returns
returns c = (told (goal.at.returns c).After-copy_bits).word_is
