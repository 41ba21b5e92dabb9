-- The text that is left of the trace of a port (this project's own).
use Rattle.std.specs.Prelude.{ℕ, ◌+◌, List, ◌++◌}
use Rattle.handshake.specs.Rows as port
use Rattle.handshake.specs.declared.cycle_feed.CycleFeed as cycles
use Rattle.handshake.specs.declared.feed.TransferFeed as transfers
use Rattle.handshake.specs.declared.port_run.PortRun.{PortRun}
use Rattle.physical_stream.specs.Cycles.{Cycle}
use Rattle.scheduler.specs.declared.planner.Planner.{Planner}
use Rattle.trace_pieces.specs.Rows.{rows_from}
use Rattle.trace_pieces.specs.declared.pieces.TracePieces.{TracePieces}
use Rattle.port_drive.specs.Starting.{runs_of_port}

-- the rows that are left of the runs of a port
abbrev pub rows_left : {T : transfers.Ghosts Planner} → PortRun Planner T → List Cycle
rows_left run = port.rows_after (runs_of_port run) run.stream run.number run.many

-- all rows of the runs of a port, whether they are left or not
abbrev pub all_rows : {T : transfers.Ghosts Planner} → PortRun Planner T → List Cycle
all_rows run = port.rows_from (runs_of_port run) 0 (run.number + run.many)

-- the header, where it is still to come, and the rows that are left
abbrev pub text_left : {T : transfers.Ghosts Planner} {G : cycles.Ghosts (PortRun Planner T)} → TracePieces (PortRun Planner T) G → List ℕ
text_left pieces = pieces.header ++ rows_from pieces.streams pieces.stream (rows_left pieces.feed)
