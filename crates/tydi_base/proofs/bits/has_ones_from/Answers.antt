use Rattle.std.proofs.Common.{◌/◌, ◌<◌, get_or, not, ap, arith, sym}
use Rattle.std.proofs.Math.Facts.{Fits-lt-pow}
use Rattle.tydi_base.proofs.HexBytes.{no_ones-full, no_ones-last}
use Rattle.tydi_base.proofs.bits.has_ones_from.Goals as goal

pub returns-then-used-eq0 : goal.returns-then-used-eq0
returns-then-used-eq0 c =
    ap not (sym (no_ones-full c.args.width c.args.bytes.now c.if-used-eq0.true c.requires))

pub returns : goal.returns
returns c =
    let byte : get_or c.args.bytes.now (c.args.width / 8) 0 < 256 = Fits-lt-pow (c.type_inv.bytes (c.args.width / 8))
    in ap not (sym (no_ones-last c.args.width c.args.bytes.now (omega arith) c.requires byte))
