use Rattle.std.proofs.Common.{ℕ, ◌≤◌, ◌+◌}
use Rattle.std.specs.Int.{IsGcd}
use Rattle.tydi_base.proofs.frac.greatest_divisor.Given as goal

abbrev pub invariant-remainders : goal.invariant-remainders
invariant-remainders l = ((g : ℕ) → IsGcd l.number l.divisor g → IsGcd l.fn.num l.fn.den g) × (1 ≤ l.number + l.divisor)

abbrev pub decreases-remainders : goal.decreases-remainders
decreases-remainders l = l.divisor
