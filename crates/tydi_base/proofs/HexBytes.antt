-- Hexadecimal digits packed two to a byte, and the word of a width that bytes keep.
use Rattle.std.proofs.Common.{◌≡◌, ◌∙◌, sym, ℕ, zero, suc, ◌+◌, ◌-◌, ◌*◌, ◌/◌, ◌%◌, ◌^◌, ◌<◌, ◌≤◌, Bool, true, false, not, ◌&&◌, eqb, List, [], ◌∷◌, ◌++◌, length, get_or, set, take, drop, Option, Some, None, option_map, option_and_then, refl, ap, arith, append_assoc}
use Rattle.std.proofs.lemmas.Bool.{eq-eqb, eqb-false, eqb-true, ne_eqb}
use Rattle.std.proofs.lemmas.Bool.Decides.{nat_tests}
use Rattle.std.proofs.Math.Nat.{pow-succ', zero-add, suc-add, le_refl}
use Rattle.std.proofs.Math.Numerals.{one-add}
use Rattle.std.proofs.lemmas.Nat.{shr-shr, shr_below}
use Rattle.std.proofs.lemmas.List.{drop-drop, drop-append-le, take-append-le, drop_more, drop_all, length-take, length-drop, append-nil, take-append-drop, take_all, drop_at}
use Rattle.std.proofs.lemmas.Grind.{drop-set_at}
use Rattle.std.specs.Prelude.{MatchBool, MatchOption}
use Rattle.tydi_base.specs.Bits.{bits_of, zero_bits, unpack, IsPacked}
use Rattle.tydi_base.specs.Hex.{byte_of_digits, whole_bytes, digit_of, digits_for, bits_of_digits, no_ones, fitted, word_at}
use Rattle.tydi_base.proofs.BitsLemmas.{bits_of-add, unpack-push, unpack-nil, length-unpack, bits_of-zero}
use Rattle.tydi_base.proofs.HexLemmas.{bits_of_digits-cons, bits_of_digits-nil, hex_digit-digit_of, hex_of-digits, no_ones-zero_bits, zeros_from_no_ones}

-- ---- packed bytes

record Pair (high low byte : ℕ) : Type 0 where
  above : ℕ
  below : ℕ
  above_is : digit_of high ≡ Some above
  below_is : digit_of low ≡ Some below
  byte_is : byte ≡ 16 * above + below

pair_by : (high low byte : ℕ) (above below : Option ℕ)
    → digit_of high ≡ above
    → digit_of low ≡ below
    → option_and_then (λ (below : ℕ). option_map (λ (above : ℕ). 16 * above + below) above) below ≡ Some byte
    → Pair high low byte
pair_by high low byte above None above_is below_is is_byte = cc
pair_by high low byte None (Some below) above_is below_is is_byte = cc
pair_by high low byte (Some above) (Some below) above_is below_is is_byte = record {
  above = above;
  below = below;
  above_is = above_is;
  below_is = below_is;
  byte_is = cc;
}

pair_of : (high low byte : ℕ) → byte_of_digits high low ≡ Some byte → Pair high low byte
unfolding byte_of_digits
pair_of high low byte is_byte = pair_by high low byte (digit_of high) (digit_of low) refl refl is_byte

bits_of-pair : (above below : ℕ) → below < 16 → bits_of 8 (16 * above + below) ≡ bits_of 4 below ++ bits_of 4 above
bits_of-pair above below small = bits_of-add 4 4 below above small

pub bits_of_digits-pair : (high low byte : ℕ) (digits : List ℕ) (bits : List Bool)
    → bits_of_digits digits ≡ Some bits
    → byte_of_digits high low ≡ Some byte
    → bits_of_digits (high ∷ low ∷ digits) ≡ Some (bits ++ bits_of 8 byte)
bits_of_digits-pair high low byte digits bits are_bits is_byte =
    let p = pair_of high low byte is_byte
    in let small = hex_digit-digit_of low p.below p.below_is
    in let first = bits_of_digits-cons low p.below digits bits are_bits p.below_is
    in let second = bits_of_digits-cons high p.above (low ∷ digits) (bits ++ bits_of 4 p.below) first p.above_is
    in let whole : bits_of 8 byte ≡ bits_of 4 p.below ++ bits_of 4 p.above =
    ap (bits_of 8) p.byte_is ∙ bits_of-pair p.above p.below small.1
    in second ∙ ap (λ (all : List Bool). Some all) (append_assoc bits (bits_of 4 p.below) (bits_of 4 p.above) ∙ ap (λ (byte : List Bool). bits ++ byte) (sym whole))

-- one byte more, from the two digits before
pub packed_more : (digits bytes : List ℕ) (at next byte : ℕ)
    → next ≡ at + 2
    → next ≤ length digits
    → bits_of_digits (drop next digits) ≡ Some (unpack bytes)
    → byte_of_digits (get_or digits at 0) (get_or digits (at + 1) 0) ≡ Some byte
    → bits_of_digits (drop at digits) ≡ Some (unpack (bytes ++ byte ∷ []))
packed_more digits bytes at next byte is_next within are_bits is_byte =
    let first : drop at digits ≡ get_or digits at 0 ∷ drop (at + 1) digits = drop_more digits at 0 (omega arith)
    in let second : drop (at + 1) digits ≡ get_or digits (at + 1) 0 ∷ drop ((at + 1) + 1) digits =
    drop_more digits (at + 1) 0 (omega arith)
    in let place : (at + 1) + 1 ≡ next = omega arith
    in let rest : drop at digits ≡ get_or digits at 0 ∷ get_or digits (at + 1) 0 ∷ drop next digits =
    first ∙ ap (λ (tail : List ℕ). get_or digits at 0 ∷ tail) (second ∙ rw place refl)
    in rw (rest, unpack-push) (bits_of_digits-pair _ _ byte (drop next digits) (unpack bytes) are_bits is_byte)

bits_of_digits-below : (digits : List ℕ) (digit : ℕ) → bits_of_digits digits ≡ None → bits_of_digits (digit ∷ digits) ≡ None
unfolding bits_of_digits
bits_of_digits-below digits digit none = rw none refl

-- where an end of digits spells nothing, they do not
pub none_from_end : (digits : List ℕ) (at : ℕ) → bits_of_digits (drop at digits) ≡ None → bits_of_digits digits ≡ None
none_from_end digits zero none = none
none_from_end [] (suc at) none = none
none_from_end (digit ∷ digits) (suc at) none = bits_of_digits-below digits digit (none_from_end digits at none)

no_pair_by : (high low : ℕ) (digits : List ℕ) (bits : Option (List Bool)) (above below : Option ℕ)
    → option_and_then (λ (below : ℕ). option_map (λ (above : ℕ). 16 * above + below) above) below ≡ None
    → option_and_then (λ (low : List Bool). option_map (λ (value : ℕ). low ++ bits_of 4 value) above)
    (option_and_then (λ (low : List Bool). option_map (λ (value : ℕ). low ++ bits_of 4 value) below) bits)
    ≡ None
no_pair_by high low digits None above below none = refl
no_pair_by high low digits (Some bits) above None none = refl
no_pair_by high low digits (Some bits) None (Some below) none = refl
no_pair_by high low digits (Some bits) (Some above) (Some below) none = cc

no_pair : (high low : ℕ) (digits : List ℕ)
    → byte_of_digits high low ≡ None
    → bits_of_digits (high ∷ low ∷ digits) ≡ None
unfolding bits_of_digits byte_of_digits
no_pair high low digits none =
    no_pair_by high low digits (bits_of_digits digits) (digit_of high) (digit_of low) none

-- two digits of which one is none
pub none_from_pair : (digits : List ℕ) (at : ℕ)
    → at + 1 < length digits
    → byte_of_digits (get_or digits at 0) (get_or digits (at + 1) 0) ≡ None
    → bits_of_digits digits ≡ None
none_from_pair digits at within none =
    let first : drop at digits ≡ get_or digits at 0 ∷ drop (at + 1) digits = drop_more digits at 0 (omega arith)
    in let second : drop (at + 1) digits ≡ get_or digits (at + 1) 0 ∷ drop ((at + 1) + 1) digits =
    drop_more digits (at + 1) 0 (omega arith)
    in let rest : drop at digits ≡ get_or digits at 0 ∷ get_or digits (at + 1) 0 ∷ drop ((at + 1) + 1) digits =
    first ∙ ap (λ (tail : List ℕ). get_or digits at 0 ∷ tail) second
    in none_from_end digits at (rw rest (no_pair _ _ (drop ((at + 1) + 1) digits) none))

no_digit : (digit : ℕ) (digits : List ℕ) (bits : Option (List Bool))
    → option_and_then (λ (low : List Bool). option_map (λ (value : ℕ). low ++ bits_of 4 value) None) bits ≡ None
no_digit digit digits None = refl
no_digit digit digits (Some bits) = refl

-- the first of an odd number of digits
pub none_from_first : (digits : List ℕ)
    → 0 < length digits
    → digit_of (get_or digits 0 0) ≡ None
    → bits_of_digits digits ≡ None
unfolding bits_of_digits
none_from_first [] some none = absurd (omega arith)
none_from_first (digit ∷ digits) some none = rw none (no_digit digit digits (bits_of_digits digits))

pub whole_even : (digits bytes : List ℕ) (at : ℕ)
    → at ≡ 0
    → at + 2 * length bytes ≡ length digits
    → bits_of_digits (drop at digits) ≡ Some (unpack bytes)
    → whole_bytes digits ≡ Some (unpack bytes)
unfolding whole_bytes
whole_even digits bytes at first lengths are_bits =
    let even : length digits % 2 ≡ 0 = omega arith
    in let bits : bits_of_digits digits ≡ Some (unpack bytes) = rw first at are_bits
    in rw (bits, even) (ap (λ (bits : List Bool). Some bits) (append-nil (unpack bytes)))

pub whole_odd : (digits bytes : List ℕ) (at value : ℕ)
    → at ≡ 1
    → at + 2 * length bytes ≡ length digits
    → bits_of_digits (drop at digits) ≡ Some (unpack bytes)
    → digit_of (get_or digits 0 0) ≡ Some value
    → whole_bytes digits ≡ Some (unpack (bytes ++ value ∷ []))
unfolding whole_bytes
whole_odd [] bytes at value first lengths are_bits is_value = absurd (omega arith)
whole_odd (digit ∷ digits) bytes at value first lengths are_bits is_value =
    let odd : length (digit ∷ digits) % 2 ≡ 1 = omega arith
    in let rest : bits_of_digits digits ≡ Some (unpack bytes) = rw first at are_bits
    in let all = bits_of_digits-cons digit value digits (unpack bytes) rest is_value
    in let small = hex_digit-digit_of digit value is_value
    in let byte : bits_of 8 value ≡ bits_of 4 value ++ zero_bits 4 =
    ap (bits_of 8) (sym (zero-add value)) ∙ bits_of-add 4 4 value 0 small.1 ∙ ap (λ (high : List Bool). bits_of 4 value ++ high) (bits_of-zero 4)
    in rw (all, odd, unpack-push, byte)
    (ap (λ (bits : List Bool). Some bits) (append_assoc (unpack bytes) (bits_of 4 value) (zero_bits 4)))

-- an even number of digits
pub whole_by_even : (digits bytes : List ℕ) (whole : Bool)
    → 2 * length bytes ≡ length digits
    → MatchBool whole (bits_of_digits digits ≡ Some (unpack bytes)) (bits_of_digits digits ≡ None)
    → MatchBool whole (whole_bytes digits ≡ Some (unpack bytes)) (bits_of_digits digits ≡ None)
whole_by_even digits bytes false even told = told
whole_by_even digits bytes true even told = whole_even digits bytes 0 refl (omega arith) told

-- an odd number of digits, the first of them in the last byte
pub whole_by_odd : (digits bytes old : List ℕ) (half value : ℕ) (whole : Bool)
    → half ≡ length bytes
    → 1 + 2 * half ≡ length digits
    → length old ≡ half + 1
    → digit_of (get_or digits 0 0) ≡ Some value
    → MatchBool whole (bits_of_digits (take (length digits - 1) (drop 1 digits)) ≡ Some (unpack bytes)) (bits_of_digits (take (length digits - 1) (drop 1 digits)) ≡ None)
    → MatchBool whole (whole_bytes digits ≡ Some (unpack (bytes ++ drop half (set old half value)))) (bits_of_digits digits ≡ None)
whole_by_odd digits bytes old half value false half_is odd room is_value told =
    none_from_end digits 1 (sym (ap bits_of_digits (take_all (length digits - 1) (drop 1 digits) (omega (arith, length-drop 1 digits)))) ∙ told)
whole_by_odd digits bytes old half value true half_is odd room is_value told =
    let last : drop half (set old half value) ≡ value ∷ [] =
    drop-set_at old half half value refl (omega arith)
    ∙ ap (λ (rest : List ℕ). value ∷ rest) (drop_all (half + 1) old (omega arith))
    in let rest : bits_of_digits (drop 1 digits) ≡ Some (unpack bytes) =
    sym (ap bits_of_digits (take_all (length digits - 1) (drop 1 digits) (omega (arith, length-drop 1 digits)))) ∙ told
    in whole_odd digits bytes 1 value refl (omega arith) rest is_value
    ∙ ap (λ (last : List ℕ). Some (unpack (bytes ++ last))) (sym last)

pub none_packed : (digits bytes : List ℕ) → bytes ≡ [] → bits_of_digits (drop (length digits) digits) ≡ Some (unpack bytes)
none_packed digits bytes none =
    rw (none, drop_all (length digits) digits (le_refl (length digits)), unpack-nil) bits_of_digits-nil

-- ---- one byte

pub one_digit : (digits : List ℕ) (read : Option ℕ)
    → length digits ≡ 1
    → read ≡ digit_of (get_or digits 0 0)
    → MatchOption read (bits_of_digits digits ≡ None) (λ byte. whole_bytes digits ≡ Some (unpack (byte ∷ [])))
one_digit digits None one is = none_from_first digits (omega arith) (sym is)
one_digit digits (Some value) one is =
    let rest : bits_of_digits (drop 1 digits) ≡ Some (unpack []) = rw one at (none_packed digits [] refl)
    in whole_odd digits [] 1 value refl (omega arith) rest (sym is)

pub two_digits : (digits : List ℕ) (read : Option ℕ)
    → length digits ≡ 2
    → read ≡ byte_of_digits (get_or digits 0 0) (get_or digits 1 0)
    → MatchOption read (bits_of_digits digits ≡ None) (λ byte. whole_bytes digits ≡ Some (unpack (byte ∷ [])))
two_digits digits None two is = none_from_pair digits 0 (omega arith) (sym is)
two_digits digits (Some byte) two is =
    let rest : bits_of_digits (drop 2 digits) ≡ Some (unpack []) = rw two at (none_packed digits [] refl)
    in whole_even digits (byte ∷ []) 0 refl (omega arith) (packed_more digits [] 0 2 byte refl (omega arith) rest (sym is))

-- the one byte of bytes, written
pub set_one : (bytes : List ℕ) (byte : ℕ) → length bytes ≡ 1 → set bytes 0 byte ≡ byte ∷ []
set_one [] byte one = absurd (omega arith)
set_one (old ∷ []) byte one = refl
set_one (old ∷ more ∷ bytes) byte one = absurd (omega arith)

-- ---- ones at or above a width

no_ones_step : (number : ℕ) → (not (eqb (number % 2) 1) && eqb (number / 2) 0) ≡ eqb number 0
no_ones_step number = grind (arith, nat_tests)

no_ones-bits_of : (count number : ℕ) → number < 2 ^ count → no_ones (bits_of count number) ≡ eqb number 0
unfolding no_ones bits_of
no_ones-bits_of zero number below = sym (eq-eqb number 0 (omega arith))
no_ones-bits_of (suc count) number below =
    let half : number / 2 < 2 ^ count = omega (arith, pow-succ' 2 count)
    in rw (no_ones-bits_of count (number / 2) half) (no_ones_step number)

drop-bits_of : (skipped count number : ℕ)
    → drop skipped (bits_of (skipped + count) number) ≡ bits_of count (number / 2 ^ skipped)
unfolding bits_of
drop-bits_of zero count number = let same : number / 1 ≡ number = omega arith in rw (zero-add, same) refl
drop-bits_of (suc skipped) count number =
    rw (suc-add, drop-bits_of skipped count (number / 2)) (ap (bits_of count) (shr-shr number 1 skipped ∙ ap (λ (shift : ℕ). number / 2 ^ shift) (one-add skipped)))

-- the bits past a width that ends within the last byte
drop-unpack_last : (width : ℕ) (bytes : List ℕ)
    → 0 < width % 8
    → length bytes ≡ (width + 7) / 8
    → drop width (unpack bytes) ≡ bits_of (8 - width % 8) (get_or bytes (width / 8) 0 / 2 ^ (width % 8))
drop-unpack_last width bytes some many =
    let rest : drop (width / 8) bytes ≡ get_or bytes (width / 8) 0 ∷ [] =
    drop_more bytes (width / 8) 0 (omega arith)
    ∙ ap (λ (tail : List ℕ). get_or bytes (width / 8) 0 ∷ tail) (drop_all (width / 8 + 1) bytes (omega arith))
    in let whole : unpack bytes ≡ unpack (take (width / 8) bytes) ++ bits_of 8 (get_or bytes (width / 8) 0) =
    ap unpack (sym (take-append-drop (width / 8) bytes) ∙ ap (λ (tail : List ℕ). take (width / 8) bytes ++ tail) rest)
    ∙ unpack-push (take (width / 8) bytes) (get_or bytes (width / 8) 0)
    in let front_length : length (unpack (take (width / 8) bytes)) ≡ 8 * (width / 8) =
    rw (length-unpack, length-take) (omega arith)
    in let place : width ≡ 8 * (width / 8) + width % 8 = omega arith
    in let parts : 8 ≡ width % 8 + (8 - width % 8) = omega arith
    in ap (λ (at : ℕ). drop at (unpack bytes)) place
    ∙ sym (drop-drop (width % 8) (8 * (width / 8)) (unpack bytes))
    ∙ ap (λ (bits : List Bool). drop (width % 8) (drop (8 * (width / 8)) bits)) whole
    ∙ ap (drop (width % 8)) (drop_at (unpack (take (width / 8) bytes)) (bits_of 8 (get_or bytes (width / 8) 0)) (8 * (width / 8)) front_length)
    ∙ ap (λ (count : ℕ). drop (width % 8) (bits_of count (get_or bytes (width / 8) 0))) parts
    ∙ drop-bits_of (width % 8) (8 - width % 8) (get_or bytes (width / 8) 0)

pub no_ones-last : (width : ℕ) (bytes : List ℕ)
    → 0 < width % 8
    → length bytes ≡ (width + 7) / 8
    → get_or bytes (width / 8) 0 < 256
    → no_ones (drop width (unpack bytes)) ≡ eqb (get_or bytes (width / 8) 0 / 2 ^ (width % 8)) 0
no_ones-last width bytes some many below =
    let parts : 8 - width % 8 + width % 8 ≡ 8 = omega arith
    in let byte : get_or bytes (width / 8) 0 < 2 ^ (8 - width % 8 + width % 8) = rw parts below
    in rw (drop-unpack_last width bytes some many)
    (no_ones-bits_of (8 - width % 8) (get_or bytes (width / 8) 0 / 2 ^ (width % 8))
    (shr_below (get_or bytes (width / 8) 0) (8 - width % 8) (width % 8) byte))

pub no_ones-full : (width : ℕ) (bytes : List ℕ)
    → width % 8 ≡ 0
    → length bytes ≡ (width + 7) / 8
    → no_ones (drop width (unpack bytes)) ≡ true
unfolding no_ones
no_ones-full width bytes none many =
    rw (drop_all width (unpack bytes) (rw length-unpack (omega arith))) refl

-- the same of a word of one byte
module _ (width : ℕ) (bytes : List ℕ) (byte : ℕ) (some : 0 < width) (few : width ≤ 8) (many : length bytes ≡ (width + 7) / 8) (below : get_or bytes 0 0 < 256) (is : byte ≡ get_or bytes 0 0) where
  by_full : (full : Bool) → eqb width 8 ≡ full → eqb (byte / 2 ^ width) 0 ≡ no_ones (drop width (unpack bytes))
  by_full true full =
      let eight : width ≡ 8 = eqb-true width 8 full in
      let high : byte / 2 ^ width ≡ 0 = rw eight (omega arith) in
      rw high (sym (no_ones-full width bytes (omega arith) many))
  by_full false full =
      let less : width < 8 = omega (arith, few, eqb-false width 8 full) in
      let first : width / 8 ≡ 0 = omega arith in
      let used : width % 8 ≡ width = omega arith in
      sym (no_ones-last width bytes (omega arith) many (rw first below) ∙ rw (first, used, ← is) refl)

  pub no_ones-byte : eqb (byte / 2 ^ width) 0 ≡ no_ones (drop width (unpack bytes))
  no_ones-byte = by_full (eqb width 8) refl

-- ---- a word of a width

pub packed_fitted : (width : ℕ) (bytes : List ℕ)
    → length bytes ≡ (width + 7) / 8
    → no_ones (drop width (unpack bytes)) ≡ true
    → IsPacked width bytes
packed_fitted width bytes many none =
    record {
      room = omega arith;
      few = omega arith;
      zeros =
          zeros_from_no_ones (drop width (unpack bytes)) none
          ∙ ap zero_bits (length-drop width (unpack bytes) ∙ ap (λ (count : ℕ). count - width) (length-unpack bytes));
    }

pub fitted-some : (width : ℕ) (bits : List Bool) → no_ones (drop width bits) ≡ true → fitted width bits ≡ Some (take width bits)
unfolding fitted
fitted-some width bits none = rw none refl

pub fitted-none : (width : ℕ) (bits : List Bool) → no_ones (drop width bits) ≡ false → fitted width bits ≡ None
unfolding fitted
fitted-none width bits some = rw some refl

no_ones-append : (bits : List Bool) (pad : ℕ) → no_ones (bits ++ zero_bits pad) ≡ no_ones bits
unfolding no_ones
no_ones-append [] pad = no_ones-zero_bits pad
no_ones-append (bit ∷ bits) pad = rw (no_ones-append bits pad) refl

fitted-append : (width : ℕ) (bits : List Bool) (pad : ℕ)
    → width ≤ length bits
    → fitted width (bits ++ zero_bits pad) ≡ fitted width bits
unfolding fitted
fitted-append width bits pad within =
    rw (drop-append-le width bits (zero_bits pad) within, take-append-le width bits (zero_bits pad) within, no_ones-append) refl

word_by : (width : ℕ) (digits bytes : List ℕ) (bits : Option (List Bool))
    → length digits ≡ (width + 3) / 4
    → bits_of_digits digits ≡ bits
    → option_map (λ (bits : List Bool). bits ++ zero_bits (4 * (length digits % 2))) bits ≡ Some (unpack bytes)
    → fitted width (unpack bytes) ≡ option_and_then (fitted width) bits
word_by width digits bytes None many bits_are whole = cc
word_by width digits bytes (Some bits) many bits_are whole =
    let long = hex_of-digits digits bits bits_are
    in let all : bits ++ zero_bits (4 * (length digits % 2)) ≡ unpack bytes = cc
    in let within : width ≤ length bits = omega (arith, long.0)
    in ap (fitted width) (sym all) ∙ fitted-append width bits (4 * (length digits % 2)) within

pub fitted-word_at : (width : ℕ) (digits bytes : List ℕ)
    → length digits ≡ (width + 3) / 4
    → whole_bytes digits ≡ Some (unpack bytes)
    → fitted width (unpack bytes) ≡ word_at width digits
unfolding word_at whole_bytes digits_for
fitted-word_at width digits bytes many whole =
    rw (eq-eqb (length digits) ((width + 3) / 4) many) (word_by width digits bytes (bits_of_digits digits) many refl whole)

pub word_at-length : (width : ℕ) (digits : List ℕ) → (length digits ≡ (width + 3) / 4 → ⊥) → word_at width digits ≡ None
unfolding word_at digits_for
word_at-length width digits differ = rw (ne_eqb (length digits) ((width + 3) / 4) differ) refl

pub word_at-none : (width : ℕ) (digits : List ℕ)
    → length digits ≡ (width + 3) / 4
    → bits_of_digits digits ≡ None
    → word_at width digits ≡ None
unfolding word_at digits_for
word_at-none width digits many none = rw (eq-eqb (length digits) ((width + 3) / 4) many, none) refl
