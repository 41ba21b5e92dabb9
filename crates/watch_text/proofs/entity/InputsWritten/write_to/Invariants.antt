use Rattle.std.proofs.Common.{◌≡◌, ◌++◌, take}
use Rattle.std.specs.List.{flat_map}
use Rattle.watch_text.specs.Text.{stream_inputs}
use Rattle.watch_text.proofs.entity.InputsWritten.write_to.Given as goal

-- the text so far stands behind what was there
abbrev pub invariant-heads : goal.invariant-heads
invariant-heads l = l.out ≡ l.initial.out ++ flat_map stream_inputs (take l.head-index l.head-items)
