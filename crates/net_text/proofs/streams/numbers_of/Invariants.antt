use Rattle.std.proofs.Common.{◌≤◌, drop, length}
use Rattle.plan_text.specs.Numbers.{FindsFirst}
use Rattle.net_text.proofs.streams.numbers_of.Given as goal

-- the streams from this number on are there
abbrev pub invariant-streams : goal.invariant-streams
invariant-streams l = FindsFirst l.numbers l.left (drop l.left l.list) × (l.left ≤ length l.list)

abbrev pub decreases-streams : goal.decreases-streams
decreases-streams l = l.left
