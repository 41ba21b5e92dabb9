-- Hexadecimal digits filled into bytes in parts, and a word read into the bytes that keep it.
use Rattle.std.proofs.Common.{◌≡◌, ◌∙◌, sym, ℕ, ◌+◌, ◌-◌, ◌/◌, ◌≤◌, Bool, true, false, not, List, [], ◌∷◌, ◌++◌, length, take, drop, replicate, Option, Some, None, refl, ap, arith, append_assoc, length-append}
use Rattle.std.proofs.lemmas.Bool.Decides.{nat_tests}
use Rattle.std.proofs.lemmas.List.{drop-drop, drop_all, length-drop, append-nil, take-append-drop, take_all, take_at}
use Rattle.std.specs.Prelude.{IsTrue, MatchBool}
use Rattle.std.specs.List.{refill}
use borrow.Rule.Slice.PartMut.{put_mid}
use Rattle.tydi_base.specs.Bits.{bits_of, unpack, IsPacked}
use Rattle.tydi_base.specs.Hex.{whole_bytes, bits_of_digits, no_ones, word_at}
use Rattle.tydi_base.proofs.BitsLemmas.{length_packed, refill_whole, zeros_packed, unpack-append}
use Rattle.tydi_base.proofs.HexLemmas.{bits_of_digits-cons, bits_of_digits-nil, parts}
use Rattle.tydi_base.proofs.HexBytes.{fitted-none, fitted-some, fitted-word_at, none_from_end, packed_fitted}

-- ---- digits in two parts

pub bits_of_digits-append : (front back : List ℕ) (high low : List Bool)
    → bits_of_digits front ≡ Some high
    → bits_of_digits back ≡ Some low
    → bits_of_digits (front ++ back) ≡ Some (low ++ high)
bits_of_digits-append [] back high low are_high are_low =
    let none : high ≡ [] = cc bits_of_digits-nil
    in are_low ∙ ap (λ (bits : List Bool). Some bits) (sym (append-nil low) ∙ ap (λ (rest : List Bool). low ++ rest) (sym none))
bits_of_digits-append (digit ∷ front) back high low are_high are_low =
    let p = parts digit front high are_high
    in bits_of_digits-cons digit p.value (front ++ back) (low ++ p.low) (bits_of_digits-append front back p.low low p.low_is are_low) p.value_is
    ∙ ap (λ (bits : List Bool). Some bits) (append_assoc low p.low (bits_of 4 p.value) ∙ ap (λ (rest : List Bool). low ++ rest) (sym p.bits_are))

some_front : (front back : List ℕ) (bits : List Bool)
    → bits_of_digits (front ++ back) ≡ Some bits
    → (high : List Bool) × (bits_of_digits front ≡ Some high)
some_front [] back bits are = ([], bits_of_digits-nil)
some_front (digit ∷ front) back bits are =
    let p = parts digit (front ++ back) bits are
    in let rest = some_front front back p.low p.low_is
    in (rest.0 ++ bits_of 4 p.value, bits_of_digits-cons digit p.value front rest.0 rest.1 p.value_is)

none_front_by : (front back : List ℕ) (read : Option (List Bool))
    → bits_of_digits front ≡ None
    → bits_of_digits (front ++ back) ≡ read
    → bits_of_digits (front ++ back) ≡ None
none_front_by front back None none is_read = is_read
none_front_by front back (Some bits) none is_read =
    let some = some_front front back bits is_read
    in let apart : Some some.0 ≡ None = sym some.1 ∙ none
    in cc

-- where a front of digits spells nothing, they do not
pub none_from_front : (front back : List ℕ) → bits_of_digits front ≡ None → bits_of_digits (front ++ back) ≡ None
none_from_front front back none = none_front_by front back (bits_of_digits (front ++ back)) none refl

-- a block more, from the sixteen digits before
pub packed_block : (digits bytes block : List ℕ) (at next : ℕ)
    → next ≡ at + 16
    → next ≤ length digits
    → bits_of_digits (drop next digits) ≡ Some (unpack bytes)
    → bits_of_digits (take 16 (drop at digits)) ≡ Some (unpack block)
    → bits_of_digits (drop at digits) ≡ Some (unpack (bytes ++ block))
packed_block digits bytes block at next is_next within are_bits are_block =
    let parts : take 16 (drop at digits) ++ drop next digits ≡ drop at digits =
    ap (λ (rest : List ℕ). take 16 (drop at digits) ++ rest) (ap (λ (place : ℕ). drop place digits) is_next ∙ sym (drop-drop 16 at digits))
    ∙ take-append-drop 16 (drop at digits)
    in ap bits_of_digits (sym parts)
    ∙ bits_of_digits-append (take 16 (drop at digits)) (drop next digits) (unpack block) (unpack bytes) are_block are_bits
    ∙ ap (λ (bits : List Bool). Some bits) (sym (unpack-append bytes block))

-- the first sixteen of the digits from a place on, as a part of a part
pub first_sixteen : (digits : List ℕ) (at : ℕ) → take 16 (take (length digits - at) (drop at digits)) ≡ take 16 (drop at digits)
first_sixteen digits at = ap (take 16) (take_all (length digits - at) (drop at digits) (omega (arith, length-drop at digits)))

pub none_from_block : (digits : List ℕ) (at : ℕ) → bits_of_digits (take 16 (drop at digits)) ≡ None → bits_of_digits digits ≡ None
none_from_block digits at none =
    none_from_end digits at
    (ap bits_of_digits (sym (take-append-drop 16 (drop at digits))) ∙ none_from_front (take 16 (drop at digits)) (drop 16 (drop at digits)) none)

-- digits packed in two parts, the last of them in the first bytes
pub packed_parts : (digits bytes low high : List ℕ) (front count : ℕ) (whole : Bool)
    → front ≤ length digits
    → count ≤ length bytes
    → length low ≡ count
    → length high ≡ length bytes - count
    → bits_of_digits (take (length digits - front) (drop front digits)) ≡ Some (unpack low)
    → MatchBool whole (bits_of_digits (take front digits) ≡ Some (unpack high)) (bits_of_digits (take front digits) ≡ None)
    → MatchBool whole
    (bits_of_digits digits ≡ Some (unpack (put_mid count (length (low ++ drop count bytes) - count) (low ++ drop count bytes) high)))
    (bits_of_digits digits ≡ None)
packed_parts digits bytes low high front count false within room low_long high_long are_low none =
    ap bits_of_digits (sym (take-append-drop front digits)) ∙ none_from_front (take front digits) (drop front digits) none
packed_parts digits bytes low high front count true within room low_long high_long are_low are_high =
    let rest : take (length digits - front) (drop front digits) ≡ drop front digits =
    take_all (length digits - front) (drop front digits) (omega (arith, length-drop front digits))
    in let total : length (low ++ drop count bytes) ≡ length bytes = omega (arith, length-append low (drop count bytes), length-drop count bytes)
    in let past : drop (length (low ++ drop count bytes) - count) (drop count (low ++ drop count bytes)) ≡ [] =
    drop_all (length (low ++ drop count bytes) - count) (drop count (low ++ drop count bytes)) (omega (arith, length-drop count (low ++ drop count bytes)))
    in let placed : put_mid count (length (low ++ drop count bytes) - count) (low ++ drop count bytes) high ≡ low ++ high =
    ap (λ (front : List ℕ). front ++ (high ++ drop (length (low ++ drop count bytes) - count) (drop count (low ++ drop count bytes))))
    (take_at low (drop count bytes) count low_long)
    ∙ ap (λ (past : List ℕ). low ++ (high ++ past)) past
    ∙ ap (λ (high : List ℕ). low ++ high) (append-nil high)
    in ap bits_of_digits (sym (take-append-drop front digits))
    ∙ bits_of_digits-append (take front digits) (drop front digits) (unpack high) (unpack low) are_high (sym (ap bits_of_digits rest) ∙ are_low)
    ∙ ap (λ (bits : List Bool). Some bits) (sym (ap unpack placed ∙ unpack-append low high))

pub none_from_back : (digits : List ℕ) (front : ℕ)
    → bits_of_digits (take (length digits - front) (drop front digits)) ≡ None
    → bits_of_digits digits ≡ None
none_from_back digits front none =
    let rest : take (length digits - front) (drop front digits) ≡ drop front digits =
    take_all (length digits - front) (drop front digits) (omega (arith, length-drop front digits))
    in none_from_end digits front (sym (ap bits_of_digits rest) ∙ none)

-- ---- a word read into the bytes that keep it

pub record Filled (width : ℕ) (digits bytes : List ℕ) (spelled : Bool) : Type 0 where
  pub packed : IsTrue spelled → IsPacked width bytes
  pub word : MatchBool spelled (word_at width digits ≡ Some (take width (unpack bytes))) (word_at width digits ≡ None)

pub filled : (width : ℕ) (digits bytes : List ℕ) (high : Bool)
    → length bytes ≡ (width + 7) / 8
    → length digits ≡ (width + 3) / 4
    → whole_bytes digits ≡ Some (unpack bytes)
    → high ≡ not (no_ones (drop width (unpack bytes)))
    → Filled width digits bytes (not high)
filled width digits bytes true room many whole high_is =
    let some : no_ones (drop width (unpack bytes)) ≡ false = grind (arith, nat_tests)
    in record { packed = λ told. cc; word = sym (fitted-word_at width digits bytes many whole) ∙ fitted-none width (unpack bytes) some }
filled width digits bytes false room many whole high_is =
    let none : no_ones (drop width (unpack bytes)) ≡ true = grind (arith, nat_tests)
    in record {
      packed = λ told. packed_fitted width bytes room none;
      word = sym (fitted-word_at width digits bytes many whole) ∙ fitted-some width (unpack bytes) none;
    }

-- zeros in place of a word that is not spelled
pub cleared : (width : ℕ) (old new : List ℕ) → length old ≡ (width + 7) / 8 → new ≡ replicate (length old) 0 → IsPacked width new
cleared width old new room new_is =
    rw new_is (zeros_packed width (length old) (omega arith))

-- the word and what was read into its bytes
pub record Reads (width : ℕ) (digits : List ℕ) (word : List Bool) (bytes : List ℕ) (spelled : Bool) : Type 0 where
  pub packed : IsPacked width bytes
  pub read : IsTrue spelled → word_at (length word) digits ≡ Some (take width (unpack bytes))
  pub none : spelled ≡ false → word_at (length word) digits ≡ None
  pub width_is : length (take width (unpack bytes)) ≡ length word

reads_by : (width : ℕ) (digits : List ℕ) (word : List Bool) (bytes : List ℕ) (spelled : Bool)
    → IsPacked width bytes
    → length word ≡ width
    → MatchBool spelled (word_at width digits ≡ Some (take width (unpack bytes))) (word_at width digits ≡ None)
    → Reads width digits word bytes spelled
reads_by width digits word bytes false packed wide told = record {
  packed = packed;
  read = λ no_word. cc;
  none = λ _. ap (λ (width : ℕ). word_at width digits) wide ∙ told;
  width_is = length_packed width bytes packed ∙ sym wide;
}
reads_by width digits word bytes true packed wide told = record {
  packed = packed;
  read = λ _. ap (λ (width : ℕ). word_at width digits) wide ∙ told;
  none = λ no_word. cc;
  width_is = length_packed width bytes packed ∙ sym wide;
}

pub reads : (width : ℕ) (digits : List ℕ) (word : List Bool) (old new : List ℕ) (spelled : Bool)
    → IsPacked width old
    → take width (unpack old) ≡ word
    → length new ≡ length old
    → IsPacked width new
    → MatchBool spelled (word_at width digits ≡ Some (take width (unpack new))) (word_at width digits ≡ None)
    → Reads width digits word (refill (length old) old new) spelled
reads width digits word old new spelled packed word_is same fresh told =
    rw (refill_whole old new same)
    (reads_by width digits word new spelled fresh (sym (ap length word_is) ∙ length_packed width old packed) told)
