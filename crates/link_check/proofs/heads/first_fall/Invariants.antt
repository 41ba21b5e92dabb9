use Rattle.std.proofs.Common.{take}
use Rattle.link_check.specs.Carry.{LevelsRise}
use Rattle.link_check.proofs.heads.first_fall.Given as goal

-- no level so far falls
abbrev pub invariant-streams : goal.invariant-streams
invariant-streams l = LevelsRise (take l.stream l.from) (take l.stream l.to)
