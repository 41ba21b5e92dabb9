use Rattle.std.proofs.Common.{◌≡◌, map, take}
use Rattle.testbench.specs.Given.{head_of}
use Rattle.testbench.proofs.making.heads_of.Given as goal

abbrev pub invariant-streams : goal.invariant-streams
invariant-streams l = l.heads ≡ map head_of (take l.stream-index l.streams)
