-- Words of bits in hexadecimal: each spelling is read, and each text that is read is a spelling.
use Rattle.std.proofs.Common.{◌≡◌, ◌∙◌, sym, ℕ, zero, suc, ◌+◌, ◌-◌, ◌*◌, ◌/◌, ◌^◌, ◌<◌, ◌≤◌, Bool, true, false, eqb, if◌then◌else◌, List, [], ◌∷◌, ◌++◌, length, take, drop, Option, Some, None, option_map, option_and_then, refl, ap, arith, length-append, append_assoc}
use Rattle.std.proofs.lemmas.Bool.{eqb-true, eq-eqb}
use Rattle.std.proofs.lemmas.Bool.Decides.{nat_tests}
use Rattle.std.proofs.Math.Nat.{pow-le-pow_right}
use Rattle.std.proofs.lemmas.Option.{cond_some}
use Rattle.std.proofs.lemmas.List.{length-take, length-drop, append-nil, take-append-drop, drop_at, take_at}
use Rattle.tydi_base.specs.Bits.{bits_of, number_of_bits, zero_bits}
use Rattle.tydi_base.specs.Hex.{hex_digit, digit_of, hex_of, digits_for, bits_of_digits, no_ones, fitted, word_at}
use Rattle.tydi_base.proofs.BitsLemmas.{length-bits_of, number_of_bits-bits_of, bits_of-number_of_bits, number_of_bits-below}

-- ---- digits

digit_of-hex_digit : (value : ℕ) → value < 16 → digit_of (hex_digit value) ≡ Some value
unfolding digit_of hex_digit
digit_of-hex_digit value below = grind (arith, nat_tests)

-- a digit's value is below 16, and it is the digit of that value
pub hex_digit-digit_of : (byte value : ℕ) → digit_of byte ≡ Some value → (hex_digit value ≡ byte) × (value < 16)
unfolding digit_of hex_digit
hex_digit-digit_of byte value is_value = grind (arith, nat_tests)

-- ---- no ones

pub no_ones-zero_bits : (count : ℕ) → no_ones (zero_bits count) ≡ true
unfolding no_ones
no_ones-zero_bits zero = refl
no_ones-zero_bits (suc count) = no_ones-zero_bits count

pub zeros_from_no_ones : (bits : List Bool) → no_ones bits ≡ true → bits ≡ zero_bits (length bits)
unfolding no_ones
zeros_from_no_ones [] none = refl
zeros_from_no_ones (false ∷ bits) none = ap (λ (rest : List Bool). false ∷ rest) (zeros_from_no_ones bits none)
zeros_from_no_ones (true ∷ bits) none = cc

-- ---- spelling and digits

pub length-hex_of : (bits : List Bool) → length (hex_of bits) ≡ (length bits + 3) / 4
unfolding hex_of
length-hex_of [] = refl
length-hex_of (a ∷ []) = refl
length-hex_of (a ∷ b ∷ []) = refl
length-hex_of (a ∷ b ∷ c ∷ []) = refl
length-hex_of (a ∷ b ∷ c ∷ d ∷ bits) = rw length-append (omega (arith, length-hex_of bits))

pub bits_of_digits-nil : bits_of_digits [] ≡ Some []
unfolding bits_of_digits
bits_of_digits-nil = refl

pub bits_of_digits-cons : (digit value : ℕ) (digits : List ℕ) (low : List Bool)
    → bits_of_digits digits ≡ Some low
    → digit_of digit ≡ Some value
    → bits_of_digits (digit ∷ digits) ≡ Some (low ++ bits_of 4 value)
unfolding bits_of_digits
bits_of_digits-cons digit value digits low are_low is_value = rw (are_low, is_value) refl

-- the parts of digits that spell bits
pub record Parts (digit : ℕ) (digits : List ℕ) (bits : List Bool) : Type 0 where
  pub low : List Bool
  pub value : ℕ
  pub low_is : bits_of_digits digits ≡ Some low
  pub value_is : digit_of digit ≡ Some value
  pub bits_are : bits ≡ low ++ bits_of 4 value

split : (digit : ℕ) (digits : List ℕ) (bits : List Bool) (low : Option (List Bool)) (value : Option ℕ)
    → bits_of_digits digits ≡ low
    → digit_of digit ≡ value
    → option_and_then (λ low. option_map (λ value. low ++ bits_of 4 value) value) low ≡ Some bits
    → Parts digit digits bits
split digit digits bits None value low_is value_is is_bits = cc
split digit digits bits (Some low) None low_is value_is is_bits = cc
split digit digits bits (Some low) (Some value) low_is value_is is_bits = record {
  low = low;
  value = value;
  low_is = low_is;
  value_is = value_is;
  bits_are = cc;
}

pub parts : (digit : ℕ) (digits : List ℕ) (bits : List Bool)
    → bits_of_digits (digit ∷ digits) ≡ Some bits
    → Parts digit digits bits
unfolding bits_of_digits
parts digit digits bits is_bits =
    split digit digits bits (bits_of_digits digits) (digit_of digit) refl refl is_bits

-- one digit more at the low end
pub bits_of_digits-push : (digits : List ℕ) (digit value : ℕ) (high : List Bool)
    → digit_of digit ≡ Some value
    → bits_of_digits digits ≡ Some high
    → bits_of_digits (digits ++ digit ∷ []) ≡ Some (bits_of 4 value ++ high)
bits_of_digits-push [] digit value high is_value are_high =
    let none : [] ≡ high = cc (bits_of_digits-nil)
    in bits_of_digits-cons digit value [] [] bits_of_digits-nil is_value
    ∙ ap (λ (rest : List Bool). Some rest) (sym (append-nil (bits_of 4 value)) ∙ ap (λ (rest : List Bool). bits_of 4 value ++ rest) none)
bits_of_digits-push (top ∷ digits) digit value high is_value are_high =
    let p = parts top digits high are_high
    in let rest = bits_of_digits-push digits digit value p.low is_value p.low_is
    in bits_of_digits-cons top p.value (digits ++ digit ∷ []) (bits_of 4 value ++ p.low) rest p.value_is
    ∙ ap (λ (bits : List Bool). Some bits) (append_assoc (bits_of 4 value) p.low (bits_of 4 p.value) ∙ ap (λ (bits : List Bool). bits_of 4 value ++ bits) (sym p.bits_are))

-- ---- a spelling is read

-- the digit of up to four bits
nibble_digit : (nibble : List Bool) (pad : ℕ)
    → length nibble + pad ≡ 4
    → (digits : List ℕ) (high : List Bool)
    → bits_of_digits digits ≡ Some high
    → bits_of_digits (digits ++ hex_digit (number_of_bits nibble) ∷ []) ≡ Some ((nibble ++ zero_bits pad) ++ high)
nibble_digit nibble pad four digits high are_high =
    let short : length nibble ≤ 4 = omega arith
    in let at_most : 2 ^ length nibble ≤ 2 ^ 4 = pow-le-pow_right (omega arith) short
    in let below : number_of_bits nibble < 16 = omega (arith, number_of_bits-below nibble, at_most)
    in let bits : bits_of 4 (number_of_bits nibble) ≡ nibble ++ zero_bits pad = rw (← four) (bits_of-number_of_bits nibble pad)
    in bits_of_digits-push digits (hex_digit (number_of_bits nibble)) (number_of_bits nibble) high
    (digit_of-hex_digit (number_of_bits nibble) below) are_high
    ∙ ap (λ (low : List Bool). Some (low ++ high)) bits

-- digits spell these bits and zeros above them
record Spells (digits : List ℕ) (bits : List Bool) : Type 0 where
  pad : ℕ
  spelled : bits_of_digits digits ≡ Some (bits ++ zero_bits pad)

spells-hex_of : (bits : List Bool) → Spells (hex_of bits) bits
unfolding hex_of
spells-hex_of [] = record { pad = 0; spelled = bits_of_digits-nil }
spells-hex_of (a ∷ []) = record {
  pad = 3;
  spelled = nibble_digit (a ∷ []) 3 refl [] [] bits_of_digits-nil;
}
spells-hex_of (a ∷ b ∷ []) = record {
  pad = 2;
  spelled = nibble_digit (a ∷ b ∷ []) 2 refl [] [] bits_of_digits-nil;
}
spells-hex_of (a ∷ b ∷ c ∷ []) = record {
  pad = 1;
  spelled = nibble_digit (a ∷ b ∷ c ∷ []) 1 refl [] [] bits_of_digits-nil;
}
spells-hex_of (a ∷ b ∷ c ∷ d ∷ bits) =
    let rest = spells-hex_of bits
    in record {
      pad = rest.pad;
      spelled = nibble_digit (a ∷ b ∷ c ∷ d ∷ []) 0 refl (hex_of bits) (bits ++ zero_bits rest.pad) rest.spelled;
    }

fitted-padded : (bits : List Bool) (pad : ℕ) → fitted (length bits) (bits ++ zero_bits pad) ≡ Some bits
unfolding fitted
fitted-padded bits pad =
    rw (drop_at bits (zero_bits pad) (length bits) refl, take_at bits (zero_bits pad) (length bits) refl, no_ones-zero_bits) refl

pub word_at-hex_of : (bits : List Bool) → word_at (length bits) (hex_of bits) ≡ Some bits
unfolding word_at digits_for
word_at-hex_of bits =
    let s = spells-hex_of bits
    in let many : eqb (length (hex_of bits)) ((length bits + 3) / 4) ≡ true = eq-eqb _ _ (length-hex_of bits)
    in rw (many, s.spelled) (fitted-padded bits s.pad)

-- ---- a text that is read is a spelling

pub hex_of-append : (low : List Bool) (count : ℕ) (high : List Bool)
    → length low ≡ 4 * count
    → hex_of (low ++ high) ≡ hex_of high ++ hex_of low
unfolding hex_of
hex_of-append [] count high whole = sym (append-nil (hex_of high))
hex_of-append (a ∷ []) count high whole = absurd (omega arith)
hex_of-append (a ∷ b ∷ []) count high whole = absurd (omega arith)
hex_of-append (a ∷ b ∷ c ∷ []) count high whole = absurd (omega arith)
hex_of-append (a ∷ b ∷ c ∷ d ∷ low) count high whole =
    rw (hex_of-append low (count - 1) high (omega arith)) (append_assoc (hex_of high) (hex_of low) _)

pub hex_of-nibble : (value : ℕ) → value < 16 → hex_of (bits_of 4 value) ≡ hex_digit value ∷ []
unfolding hex_of bits_of
hex_of-nibble value below = ap (λ (number : ℕ). hex_digit number ∷ []) (number_of_bits-bits_of 4 value below)

pub hex_of-digits : (digits : List ℕ) (bits : List Bool)
    → bits_of_digits digits ≡ Some bits
    → (length bits ≡ 4 * length digits) × (hex_of bits ≡ digits)
unfolding hex_of
hex_of-digits [] bits is_bits =
    let none : bits ≡ [] = cc (bits_of_digits-nil)
    in rw none (refl, refl)
hex_of-digits (digit ∷ digits) bits is_bits =
    let p = parts digit digits bits is_bits
    in let rest = hex_of-digits digits p.low p.low_is
    in let first = hex_digit-digit_of digit p.value p.value_is
    in let nibble = hex_of-nibble p.value first.1
    in let joined = hex_of-append p.low (length digits) (bits_of 4 p.value) rest.0
    in let many : length bits ≡ 4 * length (digit ∷ digits) =
    rw (p.bits_are, length-append, length-bits_of) (omega (arith, rest.0))
    in (
      many,
      ap hex_of p.bits_are ∙ joined ∙ rw (nibble, rest.1, first.0) refl,
    )

-- zeros above a word, less than a digit of them, are not spelled
pub hex_of-padded : (bits : List Bool) (pad count : ℕ)
    → pad < 4
    → length bits + pad ≡ 4 * count
    → hex_of (bits ++ zero_bits pad) ≡ hex_of bits
unfolding hex_of number_of_bits
hex_of-padded [] pad count few whole = let none : pad ≡ 0 = omega arith in rw none refl
hex_of-padded (a ∷ []) pad count few whole = let three : pad ≡ 3 = omega arith in rw three refl
hex_of-padded (a ∷ b ∷ []) pad count few whole = let two : pad ≡ 2 = omega arith in rw two refl
hex_of-padded (a ∷ b ∷ c ∷ []) pad count few whole = let one : pad ≡ 1 = omega arith in rw one refl
hex_of-padded (a ∷ b ∷ c ∷ d ∷ bits) pad count few whole =
    rw (hex_of-padded bits pad (count - 1) few (omega arith)) refl

-- the facts that a word is read from
record Read (width : ℕ) (digits : List ℕ) (word : List Bool) : Type 0 where
  bits : List Bool
  many : length digits ≡ (width + 3) / 4
  bits_are : bits_of_digits digits ≡ Some bits
  high : no_ones (drop width bits) ≡ true
  word_is : take width bits ≡ word

read_parts : (width : ℕ) (digits : List ℕ) (word : List Bool) (many : Bool) (bits : Option (List Bool))
    → eqb (length digits) ((width + 3) / 4) ≡ many
    → bits_of_digits digits ≡ bits
    → (if many then option_and_then (fitted width) bits else None) ≡ Some word
    → Read width digits word
unfolding fitted
read_parts width digits word false bits many_is bits_are read = cc
read_parts width digits word true None many_is bits_are read = cc
read_parts width digits word true (Some bits) many_is bits_are read =
    let told : (no_ones (drop width bits) ≡ true) × (take width bits ≡ word) =
    cond_some (no_ones (drop width bits)) (take width bits) word read
    in record {
      bits = bits;
      many = eqb-true _ _ many_is;
      bits_are = bits_are;
      high = told.0;
      word_is = told.1;
    }

word_at_read : (width : ℕ) (digits : List ℕ) (word : List Bool)
    → word_at width digits ≡ Some word
    → Read width digits word
unfolding word_at digits_for
word_at_read width digits word read =
    read_parts width digits word (eqb (length digits) ((width + 3) / 4)) (bits_of_digits digits) refl refl read

pub hex_of-word_at : (width : ℕ) (digits : List ℕ) (word : List Bool)
    → word_at width digits ≡ Some word
    → (digits ≡ hex_of word) × (length word ≡ width)
hex_of-word_at width digits word is_word =
    let r = word_at_read width digits word is_word
    in let whole = hex_of-digits digits r.bits r.bits_are
    in let long : length word ≡ width =
    rw (← r.word_is, length-take) (omega (arith, whole.0, r.many))
    in let pad_is : length (drop width r.bits) ≡ length r.bits - width = length-drop width r.bits
    in let few : length (drop width r.bits) < 4 = omega (arith, whole.0, r.many, pad_is)
    in let total : length word + length (drop width r.bits) ≡ 4 * length digits = omega (arith, whole.0, r.many, pad_is, long)
    in let bits : r.bits ≡ word ++ zero_bits (length (drop width r.bits)) =
    sym (take-append-drop width r.bits)
    ∙ rw r.word_is (ap (λ (rest : List Bool). word ++ rest) (zeros_from_no_ones (drop width r.bits) r.high))
    in (
      sym whole.1 ∙ ap hex_of bits ∙ hex_of-padded word _ (length digits) few total,
      long,
    )
