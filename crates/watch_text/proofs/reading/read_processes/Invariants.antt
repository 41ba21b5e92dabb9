use Rattle.std.proofs.Common.{◌≡◌, [], drop, map}
use Rattle.watch_text.specs.Reading.{processes_from}
use Rattle.watch_text.specs.Statements.{plain_statements}
use Rattle.watch_text.proofs.reading.read_processes.Given as goal

-- the processes of all streams are those that are found, and those of the streams to come
abbrev pub invariant-heads : goal.invariant-heads
invariant-heads l = processes_from l.heads [] l.initial.lines ≡ processes_from (drop l.head-index l.heads) (map plain_statements l.found) l.lines
