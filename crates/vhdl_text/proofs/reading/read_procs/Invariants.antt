use Rattle.std.proofs.Common.{◌≡◌, length}
use Rattle.vhdl_text.specs.Processes.{AreRead, progress_of}
use Rattle.vhdl_text.specs.Reading.{no_procs, procs_from}
use Rattle.vhdl_text.proofs.reading.read_procs.Given as goal

-- the processes of all lines are those that go on from here
abbrev pub invariant-lines : goal.invariant-lines
invariant-lines l =
    (procs_from l.streams.heads no_procs l.initial.lines ≡ procs_from l.streams.heads (progress_of l.processes) l.lines) × AreRead l.streams.heads l.processes

abbrev pub decreases-lines : goal.decreases-lines
decreases-lines l = length l.lines
