use Rattle.std.proofs.Common.{◌≡◌, ℕ, ◌<◌, get_or, length}
use Rattle.logical_types.proofs.names.fill_numbers.Given as goal

-- the numbers so far are their places
abbrev pub invariant-places : goal.invariant-places
invariant-places l = record {
  long : length l.numbers ≡ length l.initial.numbers;
  filled : (k : ℕ) → k < l.place → get_or l.numbers k 0 ≡ k;
}
