use Rattle.std.proofs.Common.{◌≡◌, Some, length}
use Rattle.cycle_trace.specs.Trace.{TraceText}
use Rattle.port_gen.specs.Handing.{AreOwed}
use Rattle.port_gen.proofs.HandLemmas.{IsHanding}
use Rattle.port_gen.proofs.handing.hand_rows.Given as goal

abbrev pub invariant-rows : goal.invariant-rows
invariant-rows g l = record {
  handing : (t : TraceText) → g.K.RowSink.stands_for l.fn.sink (Some t) → AreOwed t (g.C.CycleFeed.rows l.fn.feed)
      → IsHanding (λ (said : TraceText). g.K.RowSink.stands_for l.sink (Some said)) t (g.C.CycleFeed.rows l.fn.feed) (g.C.CycleFeed.rows l.feed);
  setting : g.K.RowSink.setting l.sink ≡ g.K.RowSink.setting l.fn.sink;
}

abbrev pub decreases-rows : goal.decreases-rows
decreases-rows g l = length (g.C.CycleFeed.rows l.feed)
