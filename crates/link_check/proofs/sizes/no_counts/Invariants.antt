use Rattle.std.proofs.Common.{◌≡◌, ℕ, length}
use Rattle.link_check.specs.Counts.{entry}
use Rattle.link_check.proofs.sizes.no_counts.Given as goal

abbrev pub invariant-counts : goal.invariant-counts
invariant-counts l = record {
  long : length l.counts.items ≡ l._number;
  none : (number : ℕ) → entry l.counts.items number ≡ 0;
}
