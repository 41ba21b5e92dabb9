use Rattle.std.proofs.Common.{◌∙◌, ap, arith, drop, length, take}
use Rattle.std.proofs.lemmas.List.{length-drop, length-take}
use Rattle.tydi_base.specs.Bits.{written_at}
use Rattle.tydi_base.proofs.SliceLemmas.{written_at-whole}
use Rattle.tydi_base.proofs.bits.Bits.copy_part.Goals as goal

pub returns : goal.returns
returns c =
    c.copy_bits.ensures
    ∙ ap (λ count. written_at 0 (take count (drop c.args.offset c.args.from.now)) c.args.self.now) c.len-width.ensures
    ∙ written_at-whole (take (length c.args.self.now) (drop c.args.offset c.args.from.now)) c.args.self.now
    (omega (arith, length-take (length c.args.self.now) (drop c.args.offset c.args.from.now), length-drop c.args.offset c.args.from.now))
