use Rattle.std.proofs.Common.{◌≡◌, [], length}
use Rattle.watch_text.specs.Reading.{entries_from}
use Rattle.watch_text.proofs.table_reading.entries.Given as goal

-- the items of all lines are those that are found, and those of the lines that are left
abbrev pub invariant-lines : goal.invariant-lines
invariant-lines l = entries_from l.shape l.last [] l.initial.lines ≡ entries_from l.shape l.last l.found l.lines

abbrev pub decreases-lines : goal.decreases-lines
decreases-lines l = length l.lines
