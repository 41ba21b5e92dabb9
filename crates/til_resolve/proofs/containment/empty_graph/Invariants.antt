use Rattle.std.proofs.Common.{◌≡◌, ℕ, [], length}
use Rattle.til_resolve.specs.Graph.{targets_of}
use Rattle.til_resolve.proofs.containment.empty_graph.Given as goal

abbrev pub invariant-numbers : goal.invariant-numbers
invariant-numbers l = record {
  long : length l.graph.items ≡ l._number;
  empty : (one : ℕ) → targets_of l.graph.items one ≡ [];
}
