use Rattle.std.proofs.Common.{◌≡◌, ◌+◌, ◌≤◌, length}
use Rattle.std.specs.Fmt.{decimal}
use Rattle.tydi_base.proofs.decimal.decimal_length.Given as goal

abbrev pub invariant-digits : goal.invariant-digits
invariant-digits l = record { sum : l.digits + length (decimal l.left) ≡ length (decimal l.number) + 1; less : l.left ≤ l.number }

abbrev pub decreases-digits : goal.decreases-digits
decreases-digits l = l.left
