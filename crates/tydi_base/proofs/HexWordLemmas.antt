-- Words of a width from any number of digits: where the highest one stands, and which byte is no digit.
use Rattle.std.proofs.Common.{◌≡◌, ◌∙◌, sym, ℕ, zero, suc, ◌+◌, ◌-◌, ◌*◌, ◌%◌, ◌^◌, ◌<◌, ◌≤◌, min, Bool, true, false, List, [], ◌∷◌, ◌++◌, length, get_or, take, drop, Option, Some, None, option_map, Ok, Err, refl, ap, arith}
use Rattle.std.specs.Prelude.{IsTrue, MatchBool}
use Rattle.std.specs.List.{position_from}
use Rattle.std.specs.Option.{is_none}
use Rattle.std.proofs.lemmas.Bool.{le-ltb, lt-ltb}
use Rattle.std.proofs.Math.Nat.{zero-add, suc-add}
use Rattle.std.proofs.lemmas.List.{drop_more, drop_all, take_more}
use Rattle.tydi_base.specs.Bits.{bits_of, number_of_bits, zero_bits}
use Rattle.tydi_base.specs.Hex.{bits_of_digits, digit_of, no_ones, whole_bytes}
use Rattle.tydi_base.specs.HexWords.{counted, first_not_hex, hex_bits, hex_fault, hex_word, highest_one, in_width, one_from, resized, value_in_width}
use Rattle.tydi_base.specs.declared.hex_word.BitsFault.TheVariants as faults
use Rattle.tydi_base.proofs.BitsLemmas.{length-bits_of, number_of_bits-bits_of}
use Rattle.tydi_base.proofs.HexLemmas.{bits_of_digits-push, parts}

-- ---- the highest one

highest_one-append_some : (low high : List Bool) (index : ℕ)
    → highest_one high ≡ Some index
    → highest_one (low ++ high) ≡ Some (length low + index)
unfolding highest_one one_from
highest_one-append_some [] high index is_index = rw zero-add is_index
highest_one-append_some (bit ∷ low) high index is_index =
    rw (highest_one-append_some low high index is_index, suc-add) refl

highest_one-append_none : (low high : List Bool)
    → highest_one high ≡ None
    → highest_one (low ++ high) ≡ highest_one low
unfolding highest_one
highest_one-append_none [] high none = none
highest_one-append_none (bit ∷ low) high none = rw (highest_one-append_none low high none) refl

-- the highest one of four bits
four_above : (a b c d : Bool) → 8 ≤ number_of_bits (a ∷ b ∷ c ∷ d ∷ []) → highest_one (a ∷ b ∷ c ∷ d ∷ []) ≡ Some 3
unfolding highest_one one_from number_of_bits
four_above a b c true large = refl
four_above true true true false large = absurd (omega arith)
four_above true true false false large = absurd (omega arith)
four_above true false true false large = absurd (omega arith)
four_above true false false false large = absurd (omega arith)
four_above false true true false large = absurd (omega arith)
four_above false true false false large = absurd (omega arith)
four_above false false true false large = absurd (omega arith)
four_above false false false false large = absurd (omega arith)

four_third : (a b c d : Bool)
    → 4 ≤ number_of_bits (a ∷ b ∷ c ∷ d ∷ [])
    → number_of_bits (a ∷ b ∷ c ∷ d ∷ []) < 8
    → highest_one (a ∷ b ∷ c ∷ d ∷ []) ≡ Some 2
unfolding highest_one one_from number_of_bits
four_third a b c true large small = absurd (omega arith)
four_third a b true false large small = refl
four_third true true false false large small = absurd (omega arith)
four_third true false false false large small = absurd (omega arith)
four_third false true false false large small = absurd (omega arith)
four_third false false false false large small = absurd (omega arith)

four_second : (a b c d : Bool)
    → 2 ≤ number_of_bits (a ∷ b ∷ c ∷ d ∷ [])
    → number_of_bits (a ∷ b ∷ c ∷ d ∷ []) < 4
    → highest_one (a ∷ b ∷ c ∷ d ∷ []) ≡ Some 1
unfolding highest_one one_from number_of_bits
four_second a b c true large small = absurd (omega arith)
four_second a b true false large small = absurd (omega arith)
four_second a true false false large small = refl
four_second true false false false large small = absurd (omega arith)
four_second false false false false large small = absurd (omega arith)

four_first : (a b c d : Bool)
    → number_of_bits (a ∷ b ∷ c ∷ d ∷ []) ≡ 1
    → highest_one (a ∷ b ∷ c ∷ d ∷ []) ≡ Some 0
unfolding highest_one one_from number_of_bits
four_first a b c true one = absurd (omega arith)
four_first a b true false one = absurd (omega arith)
four_first a true false false one = absurd (omega arith)
four_first true false false false one = refl
four_first false false false false one = absurd (omega arith)

pub highest_one-8 : (value : ℕ) → value < 16 → 8 ≤ value → Some 3 ≡ option_map counted (highest_one (bits_of 4 value))
unfolding bits_of counted
highest_one-8 value below large =
    let number : 8 ≤ number_of_bits (bits_of 4 value) = rw (number_of_bits-bits_of 4 value below) large
    in rw (four_above _ _ _ _ number) refl

pub highest_one-4 : (value : ℕ) → 4 ≤ value → value < 8 → Some 2 ≡ option_map counted (highest_one (bits_of 4 value))
unfolding bits_of counted
highest_one-4 value large small =
    let number : number_of_bits (bits_of 4 value) ≡ value = number_of_bits-bits_of 4 value (omega arith)
    in let above : 4 ≤ number_of_bits (bits_of 4 value) = rw number large
    in let below : number_of_bits (bits_of 4 value) < 8 = rw number small
    in rw (four_third _ _ _ _ above below) refl

pub highest_one-2 : (value : ℕ) → 2 ≤ value → value < 4 → Some 1 ≡ option_map counted (highest_one (bits_of 4 value))
unfolding bits_of counted
highest_one-2 value large small =
    let number : number_of_bits (bits_of 4 value) ≡ value = number_of_bits-bits_of 4 value (omega arith)
    in let above : 2 ≤ number_of_bits (bits_of 4 value) = rw number large
    in let below : number_of_bits (bits_of 4 value) < 4 = rw number small
    in rw (four_second _ _ _ _ above below) refl

pub highest_one-1 : (value : ℕ) → value ≡ 1 → Some 0 ≡ option_map counted (highest_one (bits_of 4 value))
unfolding bits_of counted highest_one one_from
highest_one-1 value one = rw one refl

pub highest_one-0 : (value : ℕ) → value ≡ 0 → None ≡ option_map counted (highest_one (bits_of 4 value))
unfolding bits_of counted highest_one one_from
highest_one-0 value none = rw none refl

-- ---- a digit more at the low end

some_by : (index result value : ℕ) (bits : List Bool) (highest : Option ℕ)
    → highest_one bits ≡ highest
    → Some index ≡ option_map counted highest
    → result ≡ min (index + 4) (2 ^ 64 - 1)
    → Some result ≡ option_map counted (highest_one (bits_of 4 value ++ bits))
unfolding counted
some_by index result value bits None is_highest was is_result = cc
some_by index result value bits (Some place) is_highest was is_result =
    let index_is : index ≡ min place (2 ^ 64 - 1) = cc
    in let moved : result ≡ min (4 + place) (2 ^ 64 - 1) = omega arith
    in rw (highest_one-append_some (bits_of 4 value) bits place is_highest, length-bits_of) (ap (λ (place : ℕ). Some place) moved)

pub with_digit-some : (index result value : ℕ) (bits : List Bool)
    → Some index ≡ option_map counted (highest_one bits)
    → result ≡ min (index + 4) (2 ^ 64 - 1)
    → Some result ≡ option_map counted (highest_one (bits_of 4 value ++ bits))
with_digit-some index result value bits was is_result =
    some_by index result value bits (highest_one bits) refl was is_result

none_of : (highest : Option ℕ) → None ≡ option_map counted highest → highest ≡ None
none_of None was = refl
none_of (Some place) was = cc

pub with_digit-none : (result : Option ℕ) (value : ℕ) (bits : List Bool)
    → None ≡ option_map counted (highest_one bits)
    → result ≡ option_map counted (highest_one (bits_of 4 value))
    → result ≡ option_map counted (highest_one (bits_of 4 value ++ bits))
with_digit-none result value bits was is_result =
    rw (highest_one-append_none (bits_of 4 value) bits (none_of (highest_one bits) was)) is_result

-- ---- the digits so far

pub hex_bits-none : bits_of_digits [] ≡ Some (hex_bits [])
unfolding bits_of_digits hex_bits
hex_bits-none = refl

pub highest_one-none : ◌≡◌ {A = Option ℕ} None (option_map counted (highest_one (hex_bits [])))
unfolding bits_of_digits hex_bits highest_one
highest_one-none = refl

hex_bits-some : (digits : List ℕ) (bits : List Bool) → bits_of_digits digits ≡ Some bits → hex_bits digits ≡ bits
unfolding hex_bits
hex_bits-some digits bits are = rw are refl

hex_bits-push : (digits : List ℕ) (digit value : ℕ)
    → digit_of digit ≡ Some value
    → bits_of_digits digits ≡ Some (hex_bits digits)
    → (bits_of_digits (digits ++ digit ∷ []) ≡ Some (bits_of 4 value ++ hex_bits digits))
    × (hex_bits (digits ++ digit ∷ []) ≡ bits_of 4 value ++ hex_bits digits)
hex_bits-push digits digit value is_value are =
    let told = bits_of_digits-push digits digit value (hex_bits digits) is_value are
    in (told, hex_bits-some (digits ++ digit ∷ []) (bits_of 4 value ++ hex_bits digits) told)

pub hex_bits-more : (digits : List ℕ) (index value : ℕ)
    → index < length digits
    → digit_of (get_or digits index 0) ≡ Some value
    → bits_of_digits (take index digits) ≡ Some (hex_bits (take index digits))
    → (bits_of_digits (take (index + 1) digits) ≡ Some (hex_bits (take (index + 1) digits)))
    × (hex_bits (take (index + 1) digits) ≡ bits_of 4 value ++ hex_bits (take index digits))
hex_bits-more digits index value within is_value are =
    let told = hex_bits-push (take index digits) (get_or digits index 0) value is_value are
    in let front = take_more digits index 0 within
    in rw front (told.0 ∙ ap (λ (bits : List Bool). Some bits) (sym told.1), told.1)

-- ---- the first byte that is no digit

pub first_not_hex-start : (digits : List ℕ) → position_from (λ byte. is_none (digit_of byte)) 0 digits ≡ first_not_hex digits
unfolding first_not_hex
first_not_hex-start digits = refl

pub first_not_hex-more : (digits : List ℕ) (index value : ℕ) (first : Option ℕ)
    → index < length digits
    → digit_of (get_or digits index 0) ≡ Some value
    → position_from (λ byte. is_none (digit_of byte)) index (drop index digits) ≡ first
    → position_from (λ byte. is_none (digit_of byte)) (index + 1) (drop (index + 1) digits) ≡ first
first_not_hex-more digits index value first within is_value was =
    let at : position_from (λ byte. is_none (digit_of byte)) index (get_or digits index 0 ∷ drop (index + 1) digits) ≡ first =
    rw (drop_more digits index 0 within) at was
    in rw is_value at at

pub first_not_hex-here : (digits : List ℕ) (index : ℕ) (first : Option ℕ)
    → index < length digits
    → digit_of (get_or digits index 0) ≡ None
    → position_from (λ byte. is_none (digit_of byte)) index (drop index digits) ≡ first
    → first ≡ Some index
first_not_hex-here digits index first within none was =
    let at : position_from (λ byte. is_none (digit_of byte)) index (get_or digits index 0 ∷ drop (index + 1) digits) ≡ first =
    rw (drop_more digits index 0 within) at was
    in sym (rw none at at)

pub first_not_hex-end : (digits : List ℕ) (index : ℕ) (first : Option ℕ)
    → length digits ≤ index
    → position_from (λ byte. is_none (digit_of byte)) index (drop index digits) ≡ first
    → first ≡ None
first_not_hex-end digits index first past was = sym (rw (drop_all index digits past) at was)

-- ---- ones past the highest

record Last (bit : Bool) (highest : Option ℕ) : Type 0 where
  no_one : bit ≡ false
  none : highest ≡ None

one_from-none : (bit : Bool) (highest : Option ℕ) → one_from bit highest ≡ None → Last bit highest
unfolding one_from
one_from-none bit (Some place) none = cc
one_from-none true None none = cc
one_from-none false None none = record { no_one = refl; none = refl }

no_ones-none : (bits : List Bool) → highest_one bits ≡ None → no_ones bits ≡ true
unfolding highest_one no_ones
no_ones-none [] none = refl
no_ones-none (bit ∷ bits) none =
    let last = one_from-none bit (highest_one bits) none
    in rw (last.no_one, no_ones-none bits last.none) refl

pub no_ones_past-none : (width : ℕ) (bits : List Bool) → highest_one bits ≡ None → no_ones (drop width bits) ≡ true
unfolding highest_one
no_ones_past-none zero bits none = no_ones-none bits none
no_ones_past-none (suc width) [] none = no_ones-none [] none
no_ones_past-none (suc width) (bit ∷ bits) none =
    no_ones_past-none width bits (one_from-none bit (highest_one bits) none).none

past_by : (width : ℕ) (bit : Bool) (bits : List Bool) (index : ℕ) (highest : Option ℕ)
    → highest_one bits ≡ highest
    → one_from bit highest ≡ Some index
    → index < suc width
    → ((place : ℕ) → highest_one bits ≡ Some place → place < width → no_ones (drop width bits) ≡ true)
    → no_ones (drop width bits) ≡ true
unfolding one_from
past_by width bit bits index None is_highest is_index below rest = no_ones_past-none width bits is_highest
past_by width bit bits index (Some place) is_highest is_index below rest =
    let next : suc place ≡ index = cc
    in rest place is_highest (omega arith)

pub no_ones_past-some : (width : ℕ) (bits : List Bool) (index : ℕ)
    → highest_one bits ≡ Some index
    → index < width
    → no_ones (drop width bits) ≡ true
unfolding highest_one no_ones
no_ones_past-some zero bits index is_index below = absurd (omega arith)
no_ones_past-some (suc width) [] index is_index below = refl
no_ones_past-some (suc width) (bit ∷ bits) index is_index below =
    past_by width bit bits index (highest_one bits) refl is_index below (λ place is_place within. no_ones_past-some width bits place is_place within)

-- ---- the answer

pub hex_word-not_hex : (width index : ℕ) (digits : List ℕ)
    → first_not_hex digits ≡ Some index
    → (hex_word width digits ≡ Err (faults.NotHex index)) × (hex_fault (faults.NotHex index) ≡ Some (faults.NotHex index))
unfolding hex_word value_in_width
hex_word-not_hex width index digits first = rw first (refl, refl)

-- the conditions on a word
pub record Word (width : ℕ) (digits : List ℕ) : Type 0 where
  pub word : hex_word width digits ≡ Ok (resized width (hex_bits digits))
  pub high : no_ones (drop width (hex_bits digits)) ≡ true

pub hex_word-none : (width : ℕ) (digits : List ℕ)
    → first_not_hex digits ≡ None
    → None ≡ option_map counted (highest_one (hex_bits digits))
    → Word width digits
unfolding hex_word value_in_width in_width
hex_word-none width digits first none =
    let highest = none_of (highest_one (hex_bits digits)) none
    in record {
      word = rw (first, highest) refl;
      high = no_ones_past-none width (hex_bits digits) highest;
    }

word_by : (width index : ℕ) (digits : List ℕ) (highest : Option ℕ)
    → first_not_hex digits ≡ None
    → highest_one (hex_bits digits) ≡ highest
    → Some index ≡ option_map counted highest
    → index < width
    → width < 2 ^ 64
    → Word width digits
unfolding hex_word value_in_width in_width counted
word_by width index digits None first is_highest was below fits = cc
word_by width index digits (Some place) first is_highest was below fits =
    let index_is : index ≡ min place (2 ^ 64 - 1) = cc
    in let within : place < width = omega arith
    in record {
      word = rw (first, is_highest, lt-ltb place width within) refl;
      high = no_ones_past-some width (hex_bits digits) place is_highest within;
    }

pub hex_word-some : (width index : ℕ) (digits : List ℕ)
    → first_not_hex digits ≡ None
    → Some index ≡ option_map counted (highest_one (hex_bits digits))
    → index < width
    → width < 2 ^ 64
    → Word width digits
hex_word-some width index digits first was below fits =
    word_by width index digits (highest_one (hex_bits digits)) first refl was below fits

wide_by : (width index : ℕ) (digits : List ℕ) (highest : Option ℕ)
    → first_not_hex digits ≡ None
    → highest_one (hex_bits digits) ≡ highest
    → Some index ≡ option_map counted highest
    → width ≤ index
    → hex_word width digits ≡ Err (faults.TooWide index)
unfolding hex_word value_in_width in_width counted
wide_by width index digits None first is_highest was above = cc
wide_by width index digits (Some place) first is_highest was above =
    let index_is : index ≡ min place (2 ^ 64 - 1) = cc
    in let past : width ≤ place = omega arith
    in rw (first, is_highest, le-ltb place width past, index_is) refl

pub hex_word-wide : (width index : ℕ) (digits : List ℕ)
    → first_not_hex digits ≡ None
    → Some index ≡ option_map counted (highest_one (hex_bits digits))
    → width ≤ index
    → (hex_word width digits ≡ Err (faults.TooWide index)) × (hex_fault (faults.TooWide index) ≡ Some (faults.TooWide index))
hex_word-wide width index digits first was above =
    (wide_by width index digits (highest_one (hex_bits digits)) first refl was above, refl)

-- ---- few digits

-- the bits of digits that are read
hex_bits-read : (digits : List ℕ) (bits : List Bool) → bits_of_digits digits ≡ Some bits → bits_of_digits digits ≡ Some (hex_bits digits)
hex_bits-read digits bits are = are ∙ ap (λ (bits : List Bool). Some bits) (sym (hex_bits-some digits bits are))

whole_by : (digits : List ℕ) (bytes : List Bool) (read : Option (List Bool))
    → bits_of_digits digits ≡ read
    → option_map (λ (bits : List Bool). bits ++ zero_bits (4 * (length digits % 2))) read ≡ Some bytes
    → bits_of_digits digits ≡ Some (hex_bits digits)
whole_by digits bytes None is_read whole = cc
whole_by digits bytes (Some bits) is_read whole = hex_bits-read digits bits is_read

-- digits that fill bytes
hex_bits-whole : (digits : List ℕ) (bytes : List Bool) → whole_bytes digits ≡ Some bytes → bits_of_digits digits ≡ Some (hex_bits digits)
unfolding whole_bytes
hex_bits-whole digits bytes whole = whole_by digits bytes (bits_of_digits digits) refl whole

pub hex_bits-filled : (digits : List ℕ) (bytes : List Bool) (whole : Bool)
    → MatchBool whole (whole_bytes digits ≡ Some bytes) (bits_of_digits digits ≡ None)
    → IsTrue whole
    → bits_of_digits digits ≡ Some (hex_bits digits)
hex_bits-filled digits bytes true filled holds = hex_bits-whole digits bytes filled
hex_bits-filled digits bytes false filled holds = cc

-- each byte of digits that are read is a digit
all_digits : (digits : List ℕ) (bits : List Bool) (index : ℕ)
    → bits_of_digits digits ≡ Some bits
    → position_from (λ byte. is_none (digit_of byte)) index digits ≡ None
all_digits [] bits index are = refl
all_digits (digit ∷ digits) bits index are =
    let p = parts digit digits bits are
    in rw p.value_is (all_digits digits p.low (index + 1) p.low_is)

highest_one-none_of : (bits : List Bool) → no_ones bits ≡ true → highest_one bits ≡ None
unfolding highest_one one_from no_ones
highest_one-none_of [] none = refl
highest_one-none_of (true ∷ bits) none = cc
highest_one-none_of (false ∷ bits) none = rw (highest_one-none_of bits none) refl

below_by : (width : ℕ) (bit : Bool) (index : ℕ) (highest : Option ℕ)
    → ((place : ℕ) → highest ≡ Some place → place < width)
    → one_from bit highest ≡ Some index
    → index < suc width
unfolding one_from
below_by width bit index (Some place) within is_index =
    let next : suc place ≡ index = cc
    in omega (arith, within place refl)
below_by width true index None within is_index =
    let first : 0 ≡ index = cc
    in omega arith
below_by width false index None within is_index = cc

highest_one-below : (width : ℕ) (bits : List Bool) (index : ℕ)
    → no_ones (drop width bits) ≡ true
    → highest_one bits ≡ Some index
    → index < width
unfolding highest_one
highest_one-below zero bits index none is_index = absurd (differ (highest_one-none_of bits none) is_index)
  where
    differ : {highest : Option ℕ} → highest ≡ None → highest ≡ Some index → ⊥
    differ none some = cc
highest_one-below (suc width) [] index none is_index = cc
highest_one-below (suc width) (bit ∷ bits) index none is_index =
    below_by width bit index (highest_one bits) (λ place is_place. highest_one-below width bits place none is_place) is_index

in_width_by : (width : ℕ) (bits : List Bool) (highest : Option ℕ)
    → ((place : ℕ) → highest ≡ Some place → place < width)
    → in_width width bits highest ≡ Ok (resized width bits)
unfolding in_width
in_width_by width bits None within = refl
in_width_by width bits (Some index) within = rw (lt-ltb index width (within index refl)) refl

-- the word of digits whose ones stand below the width
pub hex_word-read : (width : ℕ) (digits : List ℕ)
    → bits_of_digits digits ≡ Some (hex_bits digits)
    → no_ones (drop width (hex_bits digits)) ≡ true
    → hex_word width digits ≡ Ok (resized width (hex_bits digits))
unfolding hex_word value_in_width
hex_word-read width digits are none =
    let first : first_not_hex digits ≡ None = sym (first_not_hex-start digits) ∙ all_digits digits (hex_bits digits) 0 are
    in rw first
    (in_width_by width (hex_bits digits) (highest_one (hex_bits digits)) (λ index is_index. highest_one-below width (hex_bits digits) index none is_index))
