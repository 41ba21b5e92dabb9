-- Decimal numbers in texts, with no sign. This project's own.
use Rattle.std.specs.Prelude.{◌≡◌, ℕ, ◌+◌, ◌-◌, ◌*◌, ◌<◌, ◌^◌, Bool, ◌==◌, ◌&&◌, ◌||◌, not, nat_lt, List, [], ◌∷◌, ◌++◌, replicate, length, slice_index, Option, Some, None, if◌then◌else◌, decimal}
use Rattle.std.specs.List.{list_all}
use Rattle.std.specs.Char.{is_ascii_digit}

-- the number that digits spell after the digits of this one
abbrev pub read_on : ℕ → List ℕ → ℕ
read_on n [] = n
read_on n (digit ∷ digits) = read_on (10 * n + (digit - 48)) digits

-- digits that spell a number: at least one, each of them `0` to `9`, and the first is `0` only where it is the only one
abbrev pub is_decimal : List ℕ → Bool
is_decimal digits = nat_lt 0 (length digits) && list_all is_ascii_digit digits && (not (slice_index digits 0 == 48) || length digits == 1)

-- the number that digits spell
abbrev pub decimal_of : List ℕ → Option ℕ
decimal_of digits = if is_decimal digits then Some (read_on 0 digits) else None

-- a number below a limit
abbrev pub below : ℕ → Option ℕ → Option ℕ
below limit None = None
below limit (Some n) = if nat_lt n limit then Some n else None

-- the number that digits spell, which may begin with zeros
abbrev pub padded_decimal_of : List ℕ → Option ℕ
padded_decimal_of digits = if nat_lt 0 (length digits) && list_all is_ascii_digit digits then Some (read_on 0 digits) else None

-- a text that spells a number is read as that number
abbrev pub DecimalsAreReadAsSpelled : Type 0
DecimalsAreReadAsSpelled = (n : ℕ) → n < 2 ^ 128 → decimal_of (decimal n) ≡ Some n

-- a text that is read as a number is its one spelling
abbrev pub DecimalsAreSpelledAsRead : Type 0
DecimalsAreSpelledAsRead = (digits : List ℕ) (n : ℕ) → n < 2 ^ 128 → decimal_of digits ≡ Some n → digits ≡ decimal n

-- zeros, and what spells a number after them, are read as that number
abbrev pub PaddedDecimalsAreReadAsSpelled : Type 0
PaddedDecimalsAreReadAsSpelled = (zeros n : ℕ) → n < 2 ^ 128 → padded_decimal_of (replicate zeros 48 ++ decimal n) ≡ Some n

-- a text that is read as a number with leading zeros is zeros and its one spelling
abbrev pub PaddedDecimalsAreSpelledAsRead : Type 0
PaddedDecimalsAreSpelledAsRead = (digits : List ℕ) (n : ℕ) → n < 2 ^ 128 → padded_decimal_of digits ≡ Some n → (zeros : ℕ) × (digits ≡ replicate zeros 48 ++ decimal n)
