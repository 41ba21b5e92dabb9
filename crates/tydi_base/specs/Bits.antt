-- Words of bits, lowest bit first (Tydi specification). How bytes keep them is this project's own.
use Rattle.std.specs.Prelude.{◌≡◌, ℕ, zero, suc, ◌+◌, ◌-◌, ◌*◌, ◌/◌, ◌%◌, ◌<◌, ◌≤◌, Bool, false, eqb, cond, List, [], ◌∷◌, ◌++◌, length, take, drop, replicate, flat_map}

-- so many bits of a number, lowest first
unfoldable pub bits_of : ℕ → ℕ → List Bool
bits_of zero number = []
bits_of (suc count) number = eqb (number % 2) 1 ∷ bits_of count (number / 2)

-- the number that a word of bits spells: the sum of 2 ^ i over its ones, at i
unfoldable pub number_of_bits : List Bool → ℕ
number_of_bits [] = 0
number_of_bits (bit ∷ bits) = cond bit 1 0 + 2 * number_of_bits bits

-- a word of so many zeros
abbrev pub zero_bits : ℕ → List Bool
zero_bits width = replicate width false

-- bits with others in place of those that stand from here on, as many
abbrev pub written_at : ℕ → List Bool → List Bool → List Bool
written_at at word bits = take at bits ++ word ++ drop (at + length word) bits

-- the bits of bytes, eight to a byte, lowest first
unfoldable pub unpack : List ℕ → List Bool
unpack bytes = flat_map (bits_of 8) bytes

-- the bytes keep a word of this width: they are as few as have room for it, and hold zeros past it
pub record IsPacked (width : ℕ) (bytes : List ℕ) : Type 0 where
  pub room : width ≤ 8 * length bytes
  pub few : 8 * length bytes < width + 8
  pub zeros : drop width (unpack bytes) ≡ zero_bits (8 * length bytes - width)
