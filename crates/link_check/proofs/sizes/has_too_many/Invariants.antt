use Rattle.std.proofs.Common.{ℕ, ◌<◌, ◌≤◌}
use Rattle.link_check.specs.Counts.{entry}
use Rattle.link_check.proofs.sizes.has_too_many.Given as goal

-- no count so far is over the limit
abbrev pub invariant-counts : goal.invariant-counts
invariant-counts l = (number : ℕ) → number < l.count-index → entry l.counts number ≤ 65536
