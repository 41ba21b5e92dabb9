-- Products of throughputs, exact however large they grow (Tydi specification, throughput).
use Rattle.std.specs.Prelude.{ℕ, zero, suc, ◌*◌, ◌/◌, ◌%◌, ◌^◌, ◌==◌, ◌&&◌, Bool, nat_lt, if◌then◌else◌}
use Rattle.tydi_base.specs.Frac.{Fraction}

-- one number divides another
abbrev pub divides : ℕ → ℕ → Bool
divides divisor number = number % divisor == 0

-- the greatest number up to a limit that divides both
abbrev pub divisor_up_to : ℕ → ℕ → ℕ → ℕ
divisor_up_to zero one other = 1
divisor_up_to (suc less) one other = if divides (suc less) one && divides (suc less) other then suc less else divisor_up_to less one other

-- the greatest number that divides both
unfoldable pub greatest_divisor : ℕ → ℕ → ℕ
greatest_divisor one other = divisor_up_to other one other

-- `num` by `den` in lowest terms
unfoldable pub lowest : ℕ → ℕ → Fraction
lowest num den = record { num = num / greatest_divisor num den; den = den / greatest_divisor num den }

-- the product of two fractions, in lowest terms
abbrev pub product_of : Fraction → Fraction → Fraction
product_of one other = lowest (one.num * other.num) (one.den * other.den)

-- both parts fit 64 bits
abbrev pub fits_words : Fraction → Bool
fits_words fraction = nat_lt fraction.num (2 ^ 64) && nat_lt fraction.den (2 ^ 64)
