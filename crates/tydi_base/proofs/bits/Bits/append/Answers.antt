use Rattle.std.proofs.Common.{◌≡◌, ◌∙◌, ap, arith, length, length-append}
use Rattle.std.proofs.lemmas.List.{length-replicate}
use Rattle.tydi_base.specs.Bits.{written_at, zero_bits}
use Rattle.tydi_base.proofs.SliceLemmas.{written_at-end}
use Rattle.tydi_base.proofs.bits.Bits.append.Goals as goal
use Rattle.tydi_base.proofs.bits.Bits.append.Goals.{In_ok-widen}

zeros_long : (c : In_ok-widen) → length (zero_bits c.len.result) ≡ length c.args.more.now
zeros_long c = length-replicate c.len.result _ ∙ c.len.ensures

pub put_word-requires : goal.put_word-requires
put_word-requires c =
    let widened = c.in_ok-widen.ensures.ok
    in omega (arith, ap length widened, length-append c.args.self.now (zero_bits c.len.result), zeros_long (goal.at.put_word-requires c).In_ok-widen)

pub returns-clause-ok : goal.returns-clause-ok
returns-clause-ok c =
    c.put_word.ensures
    ∙ ap (λ offset. written_at offset c.args.more.now c.widen.new.self) c.len-offset.ensures
    ∙ ap (written_at (length c.args.self.now) c.args.more.now) c.in_ok-widen.ensures.ok
    ∙ written_at-end c.args.self.now (zero_bits c.len.result) c.args.more.now (zeros_long (goal.at.returns-clause-ok c).In_ok-widen)
