use Rattle.std.proofs.Common.{length, ◌-◌}
use Rattle.link_check.proofs.HeadLemmas.{AreSame}
use Rattle.link_check.proofs.heads.first_other.Given as goal

-- the heads so far are one
abbrev pub invariant-streams : goal.invariant-streams
invariant-streams l = AreSame l.heads l.others l.stream

abbrev pub decreases-streams : goal.decreases-streams
decreases-streams l = length l.heads - l.stream
