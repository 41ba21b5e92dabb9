use Rattle.std.proofs.Common.{ℕ, ◌<◌}
use Rattle.til_resolve.specs.Graph.{IsRanked}
use Rattle.til_resolve.proofs.certificate.are_ranked.Given as goal

abbrev pub invariant-numbers : goal.invariant-numbers
invariant-numbers l = (one : ℕ) → one < l.number → IsRanked l.ranks l.graph one
