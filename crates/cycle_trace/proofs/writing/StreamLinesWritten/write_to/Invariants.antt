use Rattle.std.proofs.Common.{◌≡◌, ◌++◌, take}
use Rattle.std.specs.List.{flat_map}
use Rattle.physical_stream.specs.StreamLine.{head_text}
use Rattle.cycle_trace.proofs.writing.StreamLinesWritten.write_to.Given as goal

-- the lines so far stand behind what was there
abbrev pub invariant-heads : goal.invariant-heads
invariant-heads l = l.out ≡ l.initial.out ++ flat_map head_text (take l.head-index l.head-items)
