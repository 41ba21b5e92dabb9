-- Words of bits in binary, the highest bit first: this project's own spelling.
use Rattle.std.specs.Prelude.{◌≡◌, ℕ, Bool, ◌==◌, ◌||◌, if◌then◌else◌, List, [], ◌∷◌, ◌++◌, length, Option, Some, None}
use Rattle.std.specs.List.{list_all}

-- the digit of a bit
abbrev pub binary_digit : Bool → ℕ
binary_digit bit = if bit then 49 else 48

-- the text of a word: a digit for each of its bits, the highest first
unfoldable pub binary_of : List Bool → List ℕ
binary_of [] = []
binary_of (bit ∷ bits) = binary_of bits ++ binary_digit bit ∷ []

-- a byte is `0` or `1`
abbrev pub is_binary_digit : ℕ → Bool
is_binary_digit byte = byte == 48 || byte == 49

-- the bits of digits, the last digit lowest
unfoldable pub binary_bits : List ℕ → List Bool
binary_bits [] = []
binary_bits (digit ∷ digits) = binary_bits digits ++ (digit == 49) ∷ []

-- the word that digits spell: None where one of them is neither `0` nor `1`
unfoldable pub binary_word : List ℕ → Option (List Bool)
binary_word digits = if list_all is_binary_digit digits then Some (binary_bits digits) else None

-- the word of this width that digits spell: None where they are not as many
unfoldable pub binary_word_at : ℕ → List ℕ → Option (List Bool)
binary_word_at width digits = if length digits == width then binary_word digits else None

-- the text of a word is read as that word
abbrev pub BinaryIsReadAsSpelled : Type 0
BinaryIsReadAsSpelled = (bits : List Bool) → binary_word (binary_of bits) ≡ Some bits

-- a text that is read as a word is its one spelling, with a digit for each of its bits
abbrev pub BinaryIsSpelledAsRead : Type 0
BinaryIsSpelledAsRead = (digits : List ℕ) (bits : List Bool) → binary_word digits ≡ Some bits → (digits ≡ binary_of bits) × (length bits ≡ length digits)
