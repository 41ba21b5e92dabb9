use Rattle.std.proofs.Common.{arith}
use Rattle.tydi_base.proofs.PartLemmas.{with_part-bits}
use Rattle.tydi_base.proofs.slices.with_part.Goals as goal

pub returns : goal.returns
returns c =
    rw (c.from-byte.ensures, c.from.ensures)
    (with_part-bits c.args.byte c.args.place c.args.count c.args.part c.requires (omega arith))
