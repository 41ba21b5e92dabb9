use Rattle.std.proofs.Common.{arith}
use Rattle.tydi_tool.proofs.DeliveryLemmas.{WrittenFrom-start, WrittenFrom-piece, Writes-all, Writes-error}
use Rattle.tydi_tool.proofs.delivery.write_text.Goals as goal

pub pieces-init : goal.pieces-init
pieces-init g c = record { counted = omega arith; written = WrittenFrom-start _ _ }

pub pieces-preserved : goal.pieces-preserved
pieces-preserved g c = record {
  counted = omega (arith, c.pieces.invariant.counted, c.in-Ok.ensures.later);
  written = WrittenFrom-piece _ _ _ _ _ _ c.pieces.invariant.written c.in-Ok.ensures.writes;
}

pub returns-in-Err : goal.returns-in-Err
returns-in-Err g c = record {
  writes = Writes-error (Unit {0}) (Unit {0}) _ _ _ _ _ _ _ c.pieces.left _ c.in-Err.error c.pieces.invariant.counted (omega arith) c.pieces.invariant.written c.in-Err.ensures.writes;
}

pub returns : goal.returns
returns g c = record { writes = Writes-all _ _ _ _ c.pieces.invariant.written (omega arith) }
