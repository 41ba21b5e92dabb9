-- The text that is left of the trace at the sinks of a port (this project's own).
use Rattle.std.specs.Prelude.{ℕ, ◌+◌, List, ◌++◌}
use Rattle.physical_stream.specs.Cycles.{Cycle}
use Rattle.handshake.specs.declared.cycle_feed.CycleFeed as cycles
use Rattle.handshake.specs.declared.feed.TransferFeed as transfers
use Rattle.scheduler.specs.declared.planner.Planner.{Planner}
use Rattle.trace_pieces.specs.Rows.{rows_from}
use Rattle.trace_pieces.specs.declared.pieces.TracePieces.{TracePieces}
use Rattle.elastic_net.specs.Nets.{sink_rows, sink_rows_after}
use Rattle.elastic_net.specs.declared.elastic_run.ElasticRun.{ElasticRun}
use Rattle.port_elastic.specs.Starting.{chains_of_net}

-- the rows that are left of the chains of a port
abbrev pub rows_left : {T : transfers.Ghosts Planner} → ElasticRun Planner T → List Cycle
rows_left run = sink_rows_after (chains_of_net run) run.stream run.number run.many

-- all rows of the chains of a port, whether they are left or not
abbrev pub all_rows : {T : transfers.Ghosts Planner} → ElasticRun Planner T → List Cycle
all_rows run = sink_rows (chains_of_net run) 0 (run.number + run.many)

-- the header, where it is still to come, and the rows that are left
abbrev pub text_left : {T : transfers.Ghosts Planner} {G : cycles.Ghosts (ElasticRun Planner T)} → TracePieces (ElasticRun Planner T) G → List ℕ
text_left pieces = pieces.header ++ rows_from pieces.streams pieces.stream (rows_left pieces.feed)
