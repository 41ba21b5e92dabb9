use Rattle.std.proofs.Common.{ℕ, ◌<◌, ◌≤◌}
use Rattle.til_resolve.specs.Graph.{Leads, rank_of}
use Rattle.til_resolve.proofs.certificate.never_rises.Given as goal

abbrev pub invariant-numbers : goal.invariant-numbers
invariant-numbers l = (one other : ℕ) → one < l.number → Leads l.graph one other → rank_of l.ranks other ≤ rank_of l.ranks one
