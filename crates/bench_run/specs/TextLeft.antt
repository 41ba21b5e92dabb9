-- The text that is left of the trace of a bench (this project's own).
use Rattle.std.specs.Prelude.{ℕ, List, ◌++◌}
use Rattle.handshake.specs.declared.cycle_feed.CycleFeed.{Ghosts}
use Rattle.trace_pieces.specs.Rows.{rows_from}
use Rattle.trace_pieces.specs.declared.pieces.TracePieces.{TracePieces}
use Rattle.bench_run.specs.Turns.{rows_left}
use Rattle.bench_run.specs.declared.bench_rows.BenchRows.{BenchRows}

-- the header, where it is still to come, and the rows that are left
abbrev pub text_left : {G : Ghosts BenchRows} → TracePieces BenchRows G → List ℕ
text_left pieces = pieces.header ++ rows_from pieces.streams pieces.stream (rows_left pieces.feed)
