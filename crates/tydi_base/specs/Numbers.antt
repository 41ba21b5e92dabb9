-- The numbers that words of bits spell, and words of numbers. This project's own.
use Rattle.std.specs.Prelude.{ℕ, ◌^◌, Bool, ltb, if◌then◌else◌, List, drop, Option, Some, None}
use Rattle.tydi_base.specs.Bits.{bits_of, number_of_bits}
use Rattle.tydi_base.specs.Hex.{no_ones}

-- the number of a word: None where a one stands at this place or above it
unfoldable pub number_below : ℕ → List Bool → Option ℕ
number_below place bits = if no_ones (drop place bits) then Some (number_of_bits bits) else None

-- the word of this width of a number: None where the number has a one at or above the width
unfoldable pub word_of_number : ℕ → ℕ → Option (List Bool)
word_of_number width number = if ltb number (2 ^ width) then Some (bits_of width number) else None
