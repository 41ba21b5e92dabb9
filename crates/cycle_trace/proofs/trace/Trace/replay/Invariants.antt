use Rattle.std.proofs.Common.{◌≡◌, Some, take}
use Rattle.cycle_trace.specs.Trace.{cycles_of}
use Rattle.cycle_trace.proofs.trace.Trace.replay.Given as goal

abbrev pub invariant-rows : goal.invariant-rows
invariant-rows g l =
    g.K.RowSink.stands_for l.sink (Some (record { cycles = l.self.header.cycles; heads = l.self.header.heads; rows = cycles_of (take l.row-index l.self.rows) }))
    × (g.K.RowSink.setting l.sink ≡ g.K.RowSink.setting l.fn.sink)
