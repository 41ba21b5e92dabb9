use Rattle.std.proofs.Common.{◌≡◌, drop, max}
use Rattle.cycle_trace.specs.RowLayout.{rows_room}
use Rattle.cycle_trace.proofs.reader.rows.room_for.Given as goal

-- the room so far, and that for the streams to come
abbrev pub invariant-heads : goal.invariant-heads
invariant-heads l = max l.room (rows_room (drop l.head-index l.heads)) ≡ rows_room l.heads
