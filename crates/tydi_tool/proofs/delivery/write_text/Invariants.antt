use Rattle.std.proofs.Common.{◌≤◌, length}
use Rattle.tydi_tool.proofs.DeliveryLemmas.{WrittenFrom}
use Rattle.tydi_tool.proofs.delivery.write_text.Given as goal

abbrev pub invariant-pieces : goal.invariant-pieces
invariant-pieces g l = record {
  counted : g.S.Sink.faults l.fn.sink ≤ g.S.Sink.faults l.sink;
  written : WrittenFrom (g.S.Sink.taken l.fn.sink) (g.S.Sink.taken l.sink) l.fn.text l.left;
}

abbrev pub decreases-pieces : goal.decreases-pieces
decreases-pieces g l = length l.left
