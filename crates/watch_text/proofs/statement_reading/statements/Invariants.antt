use Rattle.std.proofs.Common.{◌≡◌, length}
use Rattle.watch_text.specs.Progress.{progress_of}
use Rattle.watch_text.specs.Reading.{no_progress, statements_from}
use Rattle.watch_text.proofs.statement_reading.statements.Given as goal

-- the statements of all lines are those that go on from here
abbrev pub invariant-lines : goal.invariant-lines
invariant-lines l = statements_from l.forms no_progress l.initial.lines ≡ statements_from l.forms (progress_of l.so_far) l.lines

abbrev pub decreases-lines : goal.decreases-lines
decreases-lines l = length l.lines
