use Rattle.std.proofs.Common.{◌≡◌, ◌+◌, ◌*◌, ◌≤◌, length, take}
use Rattle.std.specs.List.{sum_by}
use Rattle.net_text.proofs.capacities.component_count.Given as goal

-- the sources, and the stages of the streams so far
abbrev pub invariant-streams : goal.invariant-streams
invariant-streams l = (l.count ≡ length l.stages + sum_by length (take l.one-index l.stages)) × (l.count ≤ length l.stages + 16 * l.one-index)
