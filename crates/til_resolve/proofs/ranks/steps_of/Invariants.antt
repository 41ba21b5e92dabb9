use Rattle.std.proofs.Common.{◌≡◌, ◌+◌, ◌*◌, ◌-◌, ◌^◌, length, min, take}
use Rattle.std.specs.List.{sum_by}
use Rattle.til_resolve.proofs.ranks.steps_of.Given as goal

-- the edges of the numbers so far are counted
abbrev pub invariant-numbers : goal.invariant-numbers
invariant-numbers l = l.steps ≡ min (2 * length l.graph + sum_by length (take l.targets-index l.graph)) (2 ^ 64 - 1)
