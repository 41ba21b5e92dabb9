use Rattle.std.proofs.Common.{ℕ, ◌<◌, ◌≤◌, slice_index}
use Rattle.til_resolve.specs.Graph.{rank_of}
use Rattle.til_resolve.proofs.certificate.never_rises_from.Given as goal

abbrev pub invariant-targets : goal.invariant-targets
invariant-targets l = (k : ℕ) → k < l.target-index → rank_of l.ranks (slice_index l.targets k) ≤ l.rank
