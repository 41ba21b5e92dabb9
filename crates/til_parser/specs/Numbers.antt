-- Numbers in projects. This project's own.
use Rattle.std.specs.Prelude.{ℕ, zero, suc, ◌+◌, ◌/◌, ◌%◌, ◌^◌, ◌==◌, List, [], ◌∷◌, length, take, drop, ◌++◌, Option, Some, None, if◌then◌else◌}
use Rattle.std.specs.List.{list_all}
use Rattle.std.specs.Char.{is_ascii_digit}
use Rattle.tydi_base.specs.Decimal.{read_on, below}
use Rattle.tydi_base.specs.Frac.{Fraction}
use Rattle.til_lexer.specs.Spans.{digits_at}

-- the whole number that digits spell, which may begin with zeros: None where a byte is no digit, or where it is 2 ^ 64 or more
unfoldable pub whole_of : List ℕ → Option ℕ
whole_of digits = if list_all is_ascii_digit digits then below (2 ^ 64) (Some (read_on 0 digits)) else None

-- the digits of a number before its point, and those after it
abbrev pub digits_before : List ℕ → List ℕ
digits_before number = take (digits_at number) number

abbrev pub digits_behind : List ℕ → List ℕ
digits_behind number = drop (digits_at number + 1) number

-- the number that digits behind a point spell, where there are any
abbrev pub value_behind : List ℕ → Option ℕ
value_behind [] = None
value_behind (digit ∷ digits) = Some (read_on 0 (digit ∷ digits))

-- the runs of digits of a number, by value: that before its point, and that behind it, if it has one. Zeros at their begin do not count
abbrev pub digit_runs : List ℕ → ℕ × Option ℕ
digit_runs number = (read_on 0 (digits_before number), value_behind (digits_behind number))

-- a number with a point is that of all its digits, in parts of which ten to the count of digits after the point are a whole
abbrev pub numerator_of : List ℕ → ℕ
numerator_of number = read_on 0 (digits_before number ++ digits_behind number)

abbrev pub denominator_of : List ℕ → ℕ
denominator_of number = 10 ^ length (digits_behind number)

-- the greatest divisor of both, by the remainders of each by the next
unfoldable pub divisor_from : ℕ → ℕ → ℕ → ℕ
divisor_from zero number divisor = number
divisor_from (suc turns) number divisor = if divisor == 0 then number else divisor_from turns divisor (number % divisor)

-- a fraction in lowest terms
unfoldable pub lowest : ℕ → ℕ → Fraction
lowest num den = record { num = num / divisor_from (suc den) num den; den = den / divisor_from (suc den) num den }
