use Rattle.std.proofs.Common.{◌<◌, ap, arith, get_or, not}
use Rattle.std.proofs.Math.Facts.{Fits-lt-pow}
use Rattle.tydi_base.proofs.HexBytes.{no_ones-byte}
use Rattle.tydi_base.proofs.bits.has_ones_in.Goals as goal

pub returns : goal.returns
returns c =
    let byte : get_or c.args.bytes.now 0 0 < 256 = Fits-lt-pow (c.type_inv.bytes 0)
    in ap not (no_ones-byte c.args.width c.args.bytes.now c.from.result (omega (arith, c.requires.one, c.requires.bytes)) (omega (arith, c.requires.one, c.requires.bytes)) c.requires.bytes byte c.from.ensures)
