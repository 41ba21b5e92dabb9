use Rattle.std.proofs.Common.{◌∙◌, ◌+◌, ◌*◌, ◌/◌, ℕ, ap, arith, get_or}
use Rattle.tydi_base.specs.Bits.{bits_of}
use Rattle.tydi_base.proofs.PartLemmas.{part-last, part-pair}
use Rattle.tydi_base.proofs.slices.part_of.Goals.{then-index-source, else-index-source}
use Rattle.tydi_base.proofs.slices.part_of.Goals as goal

pub returns : goal.returns
returns c =
    let pair : ℕ = get_or c.args.source.now (c.args.from / 8) 0 + 256 * c.if-index-source.high
    in ap (bits_of c.args.count) c.shifted.ensures ∙ elim c.if-index-source.branch [
      | then-index-source w ↦
          part-pair c.args.source.now c.args.from c.args.count pair c.requires.few
          w.if-index-source.true (omega arith) (omega (arith, w.high-is))
      | else-index-source w ↦
          part-last c.args.source.now c.args.from c.args.count pair c.requires.few c.requires.some c.requires.within
          w.if-index-source.false (omega (arith, w.high-is))
    ]
