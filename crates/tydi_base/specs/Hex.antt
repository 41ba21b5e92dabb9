-- Words of bits in hexadecimal: this project's own spelling.
use Rattle.std.specs.Prelude.{ℕ, ◌+◌, ◌-◌, ◌*◌, ◌/◌, ◌%◌, Bool, true, not, ◌&&◌, eqb, ltb, leb, if◌then◌else◌, List, [], ◌∷◌, ◌++◌, length, take, drop, Option, Some, None, option_map, option_and_then}
use Rattle.std.specs.Option.{unwrap_or}
use Rattle.tydi_base.specs.Bits.{bits_of, number_of_bits, zero_bits}

-- the byte of the digit of this value: `0` to `9` and then `a` to `f`
unfoldable pub hex_digit : ℕ → ℕ
hex_digit value = if ltb value 10 then 48 + value else (97 + (value - 10))

-- the value of the digit that this byte is: None where it is none of `0` to `9` and `a` to `f`
unfoldable pub digit_of : ℕ → Option ℕ
digit_of byte =
    if leb 48 byte && ltb byte (48 + 10) then Some (byte - 48)
    else (if leb 97 byte && ltb byte (97 + 6) then Some (byte - 97 + 10) else None)

-- the value of the digit that this byte is, or 255 where it is none
unfoldable pub marked_digit : ℕ → ℕ
marked_digit byte = unwrap_or (digit_of byte) 255

-- the spelling of a word: a digit for each four of its bits, from the low end, the highest digit first
unfoldable pub hex_of : List Bool → List ℕ
hex_of [] = []
hex_of (a ∷ []) = hex_digit (number_of_bits (a ∷ [])) ∷ []
hex_of (a ∷ b ∷ []) = hex_digit (number_of_bits (a ∷ b ∷ [])) ∷ []
hex_of (a ∷ b ∷ c ∷ []) = hex_digit (number_of_bits (a ∷ b ∷ c ∷ [])) ∷ []
hex_of (a ∷ b ∷ c ∷ d ∷ bits) = hex_of bits ++ hex_digit (number_of_bits (a ∷ b ∷ c ∷ d ∷ [])) ∷ []

-- how many digits spell a word of this width: one for each four bits, and one for what is left
unfoldable pub digits_for : ℕ → ℕ
digits_for width = (width + 3) / 4

-- the bits of digits, four to a digit, the last digit lowest: None where one of them is no digit
unfoldable pub bits_of_digits : List ℕ → Option (List Bool)
bits_of_digits [] = Some []
bits_of_digits (digit ∷ digits) =
    option_and_then (λ low. option_map (λ value. low ++ bits_of 4 value) (digit_of digit)) (bits_of_digits digits)

-- the value of two digits, the first of them the higher
unfoldable pub byte_of_digits : ℕ → ℕ → Option ℕ
byte_of_digits high low = option_and_then (λ below. option_map (λ above. 16 * above + below) (digit_of high)) (digit_of low)

-- the bits of digits in whole bytes: zeros stand above those of an odd number of digits
unfoldable pub whole_bytes : List ℕ → Option (List Bool)
whole_bytes digits = option_map (λ bits. bits ++ zero_bits (4 * (length digits % 2))) (bits_of_digits digits)

-- no bit is a one
unfoldable pub no_ones : List Bool → Bool
no_ones [] = true
no_ones (bit ∷ bits) = not bit && no_ones bits

-- bits as a word of this width: None where a one stands at or above the width
unfoldable pub fitted : ℕ → List Bool → Option (List Bool)
fitted width bits = if no_ones (drop width bits) then Some (take width bits) else None

-- the word of this width that digits spell: None where they are not as many as spell such a word, one of them is no digit,
-- or a one stands at or above the width
unfoldable pub word_at : ℕ → List ℕ → Option (List Bool)
word_at width digits =
    if eqb (length digits) (digits_for width) then option_and_then (fitted width) (bits_of_digits digits) else None
