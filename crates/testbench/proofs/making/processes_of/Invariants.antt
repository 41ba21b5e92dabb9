use Rattle.std.proofs.Common.{◌≡◌, ◌++◌, drop}
use Rattle.testbench.specs.Driving.{processes_from}
use Rattle.testbench.specs.Given.{driven_by}
use Rattle.testbench.proofs.making.processes_of.Given as goal

-- the processes that are made and those of the streams that are left are all
abbrev pub invariant-streams : goal.invariant-streams
invariant-streams l =
    l.processes ++ processes_from l.number (driven_by (drop l.number l.streams) (drop l.number l.lists) (drop l.number l.plans)) ≡ processes_from 0 (driven_by l.streams l.lists l.plans)
