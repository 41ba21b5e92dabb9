use Rattle.std.proofs.Common.{length, ◌-◌}
use Rattle.vhdl_meaning.specs.Running.{Runs}
use Rattle.vhdl_meaning.proofs.running.run_on.Given as goal

abbrev pub invariant-run : goal.invariant-run
invariant-run l = Runs l.program l.from l.place l.fn.lines l.lines

abbrev pub decreases-run : goal.decreases-run
decreases-run l = length l.program - l.place
