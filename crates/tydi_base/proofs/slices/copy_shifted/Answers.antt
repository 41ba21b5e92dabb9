use Rattle.std.proofs.Common.{arith, get_or, ◌<◌, ◌+◌, ◌/◌}
use Rattle.std.proofs.Math.Facts.{Fits-lt-pow}
use Rattle.tydi_base.proofs.SliceLemmas.{copied_shifted}
use Rattle.tydi_base.proofs.slices.copy_shifted.Goals as goal

pub bytes-preserved : goal.bytes-preserved
bytes-preserved c =
    let fits : get_or c.args.source.now (c.args.from / 8 + c.bytes.index) 0 < 256 = Fits-lt-pow (c.type_inv.source (c.args.from / 8 + c.bytes.index))
    in copied_shifted c.bytes.bytes c.args.bytes.now c.args.source.now c.args.at c.args.from c.bytes.index c.shifted.result
    (omega arith) (omega arith) (omega arith) (omega arith) fits c.shifted.ensures c.bytes.invariant
