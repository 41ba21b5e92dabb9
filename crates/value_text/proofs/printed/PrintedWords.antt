-- The text of a word is a run, and is read as that word.
use Rattle.std.proofs.Common.{◌≡◌, ◌∙◌, ℕ, zero, suc, ◌+◌, ◌^◌, ◌<◌, ◌≤◌, Bool, true, false, ◌==◌, not, cond, eqb, ltb, nat_lt, List, [], ◌∷◌, ◌++◌, length, take, drop, Option, Some, None, is_some, Ok, option_and_then, refl, sym, ap, append-nil, arith, decimal}
use Rattle.std.specs.Char.{is_ascii_digit}
use Rattle.std.specs.List.{list_all, position_from}
use Rattle.std.specs.Option.{is_none}
use Rattle.std.proofs.Math.Nat.{pow-le-pow_right}
use Rattle.std.proofs.lemmas.Bool.{and_from, and_parts, lt-ltb, or_left, or_right}
use Rattle.std.proofs.lemmas.Bool.Decides.{nat_tests}
use Rattle.std.proofs.lemmas.Fmt.{length-decimal-le_wide}
use Rattle.std.proofs.lemmas.List.{length-take}
use Rattle.std.proofs.lemmas.Option.{cond_some}
use Rattle.tydi_base.specs.Bits.{bits_of, number_of_bits, zero_bits}
use Rattle.tydi_base.specs.Decimal.{below, decimal_of, is_decimal, padded_decimal_of, read_on}
use Rattle.tydi_base.specs.Hex.{bits_of_digits, digit_of, digits_for, fitted, hex_of, no_ones, word_at}
use Rattle.tydi_base.specs.HexWords.{first_not_hex, hex_bits, hex_word, highest_one, in_width, one_from, resized, value_in_width}
use Rattle.tydi_base.specs.Numbers.{word_of_number}
use Rattle.tydi_base.proofs.BitsLemmas.{bits_of-number_of_bits, number_of_bits-below}
use Rattle.tydi_base.proofs.DecimalLaws.{decimal_of-decimal_wide, is_decimal-to, padded-none, padded_spelled}
use Rattle.tydi_base.proofs.HexLemmas.{length-hex_of, parts, word_at-hex_of}
use Rattle.tydi_base.proofs.NumberLemmas.{below-fits}
use Rattle.value_text.specs.Canonical.{number_or_hex, word_text}
use Rattle.value_text.specs.Tokens.{is_word_byte}
use Rattle.value_text.specs.Typed.{decimal_word, digits_word, of_hex, text_word}
use Rattle.value_text.specs.Words.{hex_digits_of, is_hex, is_leaf, number_of}
use Rattle.value_text.proofs.printed.LexedTexts.{IsRun}

-- a test of each byte that another implies
pub each-by : (p q : ℕ → Bool) → ((byte : ℕ) → p byte ≡ true → q byte ≡ true) → (text : List ℕ) → list_all p text ≡ true → list_all q text ≡ true
each-by p q by [] each = refl
each-by p q by (byte ∷ text) each = let both = and_parts (p byte) (list_all p text) each in and_from (q byte) (list_all q text) (by byte both.0) (each-by p q by text both.1)

-- ---- decimal

is_decimal-of : (digits : List ℕ) (n : ℕ) → decimal_of digits ≡ Some n → is_decimal digits ≡ true
is_decimal-of digits n is = (cond_some (is_decimal digits) (read_on 0 digits) n is).0

digit-word : (byte : ℕ) → is_ascii_digit byte ≡ true → is_word_byte byte ≡ true
digit-word byte is = grind (arith, nat_tests)

module _ (n : ℕ) (small : n < 2 ^ 128) where
  decimal-run : IsRun (decimal n)
  decimal-run =
      let are = is_decimal-to (decimal n) (is_decimal-of (decimal n) n (decimal_of-decimal_wide n (omega (arith, small)))) in
      record { some = are.some; each = each-by is_ascii_digit is_word_byte digit-word (decimal n) are.each }

  number_of-decimal : number_of (decimal n) ≡ Some n
  number_of-decimal =
      let short : length (decimal n) ≤ 39 = length-decimal-le_wide 39 n (omega arith) (omega (arith, small)) (omega (arith, small)) in
      let few : nat_lt 39 (length (decimal n)) ≡ false = grind (arith, nat_tests, short) in
      rw few (ap (below (2 ^ 128)) (padded_spelled 0 n small) ∙ below-fits (2 ^ 128) n small)

-- a text is a run, a member by itself, and this word
pub record IsWordText (bits : List Bool) (text : List ℕ) : Type 0 where
  pub run : IsRun text
  pub leaf : is_leaf text ≡ true
  pub word : text_word (length bits) text (number_of text) ≡ Ok bits

number-leaf : (text : List ℕ) (n : ℕ) → number_of text ≡ Some n → is_leaf text ≡ true
number-leaf text n is = or_left _ _ (or_right _ _ (ap is_some is))

decimal_word-is : (bits : List Bool) → length bits ≤ 128 → decimal_word (length bits) (number_of_bits bits) ≡ Ok bits
unfolding word_of_number
decimal_word-is bits few =
    let short : nat_lt 128 (length bits) ≡ false = grind (arith, nat_tests) in
    let within : ltb (number_of_bits bits) (2 ^ length bits) ≡ true = lt-ltb _ _ (number_of_bits-below bits) in
    let same : bits_of (length bits) (number_of_bits bits) ≡ bits =
    ap (λ (n : ℕ). bits_of n (number_of_bits bits)) (let plain : length bits ≡ length bits + 0 = omega arith in plain) ∙ bits_of-number_of_bits bits 0 ∙ append-nil bits in
    rw (short, within) (ap Ok same)

short-word : (bits : List Bool) → length bits ≤ 128 → IsWordText bits (decimal (number_of_bits bits))
short-word bits few =
    let n = number_of_bits bits in
    let below_width = number_of_bits-below bits in
    let powers : 2 ^ length bits ≤ 2 ^ 128 = pow-le-pow_right {n = 2} (omega arith) few in
    let small : n < 2 ^ 128 = omega (arith, below_width, powers) in
    record {
      run = decimal-run n small;
      leaf = number-leaf (decimal n) n (number_of-decimal n small);
      word = ap (text_word (length bits) (decimal n)) (number_of-decimal n small) ∙ decimal_word-is bits few;
    }

-- ---- hexadecimal

-- digits spell bits, which are this word and zeros above it
record Spells (bits : List Bool) (digits : List ℕ) : Type 0 where
  all : List Bool
  spelled : bits_of_digits digits ≡ Some all
  zeros : no_ones (drop (length bits) all) ≡ true
  word : take (length bits) all ≡ bits

hex-spells : (bits : List Bool) → Spells bits (hex_of bits)
unfolding word_at fitted
hex-spells bits = by_length (eqb (length (hex_of bits)) (digits_for (length bits))) (word_at-hex_of bits)
  where
    by_zeros : (all : List Bool) (zeros : Bool) → bits_of_digits (hex_of bits) ≡ Some all → no_ones (drop (length bits) all) ≡ zeros
        → cond {A = Option (List Bool)} zeros (Some (take (length bits) all)) None ≡ Some bits → Spells bits (hex_of bits)
    by_zeros all true made is same = record { all = all; spelled = made; zeros = is; word = cc }
    by_zeros all false made is same = absurd cc

    by_bits : (found : Option (List Bool)) → bits_of_digits (hex_of bits) ≡ found → option_and_then (fitted (length bits)) found ≡ Some bits → Spells bits (hex_of bits)
    by_bits None made same = absurd cc
    by_bits (Some all) made same = by_zeros all (no_ones (drop (length bits) all)) made refl same

    by_length : (test : Bool) → cond {A = Option (List Bool)} test (option_and_then (fitted (length bits)) (bits_of_digits (hex_of bits))) None ≡ Some bits → Spells bits (hex_of bits)
    by_length true same = by_bits (bits_of_digits (hex_of bits)) refl same
    by_length false same = absurd cc

digits-hex : (digits : List ℕ) (bits : List Bool) → bits_of_digits digits ≡ Some bits → list_all is_hex digits ≡ true
digits-hex [] bits is = refl
digits-hex (digit ∷ digits) bits is =
    let found = parts digit digits bits is in and_from (is_hex digit) (list_all is_hex digits) (ap is_some found.value_is) (digits-hex digits found.low found.low_is)

all-digits : (digits : List ℕ) (at : ℕ) → list_all is_hex digits ≡ true → position_from (λ byte. is_none (digit_of byte)) at digits ≡ None
all-digits [] at each = refl
all-digits (digit ∷ digits) at each =
    let both = and_parts (is_hex digit) (list_all is_hex digits) each in rw (some (digit_of digit) both.0) (all-digits digits (at + 1) both.1)
  where
    some : (value : Option ℕ) → is_some value ≡ true → is_none value ≡ false
    some None is = absurd cc
    some (Some value) is = refl

no_highest : (bits : List Bool) → no_ones bits ≡ true → highest_one bits ≡ None
unfolding no_ones highest_one one_from
no_highest [] none = refl
no_highest (true ∷ bits) none = absurd cc
no_highest (false ∷ bits) none = rw (no_highest bits none) refl

-- the highest one stands below the width
low-highest : (width : ℕ) (bits : List Bool) → no_ones (drop width bits) ≡ true → (index : ℕ) → highest_one bits ≡ Some index → index < width
unfolding no_ones highest_one one_from
low-highest zero bits none index is = absurd (let no : ◌≡◌ {A = Option ℕ} None (Some index) = sym (no_highest bits none) ∙ is in cc)
low-highest (suc width) [] none index is = absurd cc
low-highest (suc width) (bit ∷ bits) none index is = by_rest (λ place made. low-highest width bits none place made) bit (highest_one bits) refl is
  where
    by_rest : ((place : ℕ) → highest_one bits ≡ Some place → place < width) → (bit : Bool) (found : Option ℕ) → highest_one bits ≡ found → one_from bit found ≡ Some index → index < suc width
    by_rest below bit (Some place) made is = let next : suc place ≡ index = cc in let less = below place made in omega (arith, next, less)
    by_rest below true None made is = let first : 0 ≡ index = cc in omega (arith, first)
    by_rest below false None made is = absurd cc

in_width-low : (width : ℕ) (bits : List Bool) → no_ones (drop width bits) ≡ true → in_width width bits (highest_one bits) ≡ Ok (resized width bits)
unfolding in_width
in_width-low width bits none = by_highest (highest_one bits) refl
  where
    by_highest : (found : Option ℕ) → highest_one bits ≡ found → in_width width bits found ≡ Ok (resized width bits)
    by_highest None made = refl
    by_highest (Some index) made = rw (lt-ltb index width (low-highest width bits none index made)) refl

resized-is : (bits all : List Bool) → take (length bits) all ≡ bits → resized (length bits) all ≡ bits
unfolding resized
resized-is bits all word =
    take-front (length bits) all (zero_bits (length bits)) (let long = ap length word in let taken = length-take (length bits) all in omega (arith, long, taken)) ∙ word
  where
    take-front : (n : ℕ) (front more : List Bool) → n ≤ length front → take n (front ++ more) ≡ take n front
    take-front zero front more few = refl
    take-front (suc n) [] more few = absurd (omega (arith, few))
    take-front (suc n) (bit ∷ front) more few = ap (λ (l : List Bool). bit ∷ l) (take-front n front more (omega (arith, few)))

hex_word-is : (bits : List Bool) → hex_word (length bits) (hex_of bits) ≡ Ok bits
unfolding hex_word value_in_width hex_bits first_not_hex
hex_word-is bits =
    let s = hex-spells bits in
    let first : position_from (λ byte. is_none (digit_of byte)) 0 (hex_of bits) ≡ None = all-digits (hex_of bits) 0 (digits-hex (hex_of bits) s.all s.spelled) in
    rw (first, s.spelled) (in_width-low (length bits) s.all s.zeros ∙ ap Ok (resized-is bits s.all s.word))

hex-word : (byte : ℕ) → is_hex byte ≡ true → is_word_byte byte ≡ true
unfolding digit_of
hex-word byte is = grind (arith, nat_tests)

no_number : (digits : List ℕ) → number_of (48 ∷ 120 ∷ digits) ≡ None
no_number digits = by_length (nat_lt 39 (length (48 ∷ 120 ∷ digits)))
  where
    by_length : (long : Bool) → cond {A = Option ℕ} long None (below (2 ^ 128) (padded_decimal_of (48 ∷ 120 ∷ digits))) ≡ None
    by_length true = refl
    by_length false = ap (below (2 ^ 128)) (padded-none (48 ∷ 120 ∷ digits) refl)

long-word : (bits : List Bool) → 128 < length bits → IsWordText bits (48 ∷ 120 ∷ hex_of bits)
long-word bits many =
    let s = hex-spells bits in
    let each = digits-hex (hex_of bits) s.all s.spelled in
    let long = length-hex_of bits in
    let some : not (length (hex_of bits) == 0) ≡ true = grind (arith, nat_tests, long) in
    let digits : hex_digits_of (48 ∷ 120 ∷ hex_of bits) ≡ Some (hex_of bits) = rw (some, each) refl in
    record {
      run = record { some = omega arith; each = each-by is_hex is_word_byte hex-word (hex_of bits) each };
      leaf = or_right _ _ (ap is_some digits);
      word = ap (text_word (length bits) (48 ∷ 120 ∷ hex_of bits)) (no_number (hex_of bits)) ∙ ap (digits_word (length bits)) digits ∙ ap of_hex (hex_word-is bits);
    }

-- ---- words

pub word_text-is : (bits : List Bool) → IsWordText bits (word_text bits)
word_text-is bits = by_length (nat_lt 128 (length bits)) refl
  where
    by_length : (long : Bool) → nat_lt 128 (length bits) ≡ long → IsWordText bits (number_or_hex (cond {A = Option ℕ} long None (Some (number_of_bits bits))) bits)
    by_length true is = long-word bits (grind (arith, nat_tests))
    by_length false is = short-word bits (grind (arith, nat_tests))
