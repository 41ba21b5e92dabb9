-- The bytes of a word of a width from digits whose ones stand below the width.
use Rattle.std.proofs.Common.{inl, inr, ◌≡◌, ◌∙◌, sym, ℕ, zero, suc, ◌+◌, ◌-◌, ◌*◌, ◌/◌, ◌%◌, ◌^◌, ◌<◌, ◌≤◌, min, Bool, true, false, List, [], ◌∷◌, ◌++◌, length, take, drop, replicate, Option, Some, None, option_map, refl, ap, arith, append_assoc}
use Rattle.std.specs.Prelude.{MatchBool, IfSome, Ok, ltb, if◌then◌else◌}
use Rattle.std.proofs.lemmas.Bool.{cases_lt, lt-ltb, ltb-true}
use Rattle.std.proofs.Math.Seq.{take-append-add}
use Rattle.std.proofs.lemmas.List.{length-take, length-drop, drop-replicate, replicate-append-replicate, take-append-drop, take-append-le, take-replicate, take-take, take_all}
use Rattle.tydi_base.specs.Bits.{bits_of, number_of_bits, zero_bits, unpack, IsPacked}
use Rattle.tydi_base.specs.Hex.{bits_of_digits, fitted, no_ones, whole_bytes}
use Rattle.tydi_base.specs.HexWords.{hex_bits, hex_word, resized}
use Rattle.tydi_base.proofs.BitsLemmas.{unpack-append, unpack-replicate_zero}
use Rattle.tydi_base.proofs.HexLemmas.{hex_of-digits, parts}
use Rattle.tydi_base.proofs.HexBytes.{packed_fitted}
use Rattle.tydi_base.proofs.HexWordLemmas.{hex_word-read}
use Rattle.tydi_base.proofs.NumberLemmas.{no_ones-drop, number_of_bits-append, number_of_bits-zeros}

-- ---- the lowest digits

pub bits_of_digits-drop : (digits : List ℕ) (bits : List Bool) (skipped : ℕ)
    → bits_of_digits digits ≡ Some bits
    → skipped ≤ length digits
    → bits_of_digits (drop skipped digits) ≡ Some (take (4 * (length digits - skipped)) bits)
bits_of_digits-drop digits bits zero are within =
    let long = hex_of-digits digits bits are
    in let whole : take (4 * (length digits - 0)) bits ≡ bits = take_all (4 * (length digits - 0)) bits (omega (arith, long.0))
    in are ∙ ap (λ (bits : List Bool). Some bits) (sym whole)
bits_of_digits-drop [] bits (suc skipped) are within = absurd (omega arith)
bits_of_digits-drop (digit ∷ digits) bits (suc skipped) are within =
    let p = parts digit digits bits are
    in let long = hex_of-digits digits p.low p.low_is
    in let count : length (digit ∷ digits) - suc skipped ≡ length digits - skipped = omega arith
    in let front : take (4 * (length digits - skipped)) bits ≡ take (4 * (length digits - skipped)) p.low =
    ap (take (4 * (length digits - skipped))) p.bits_are
    ∙ take-append-le (4 * (length digits - skipped)) p.low (bits_of 4 p.value) (omega (arith, long.0))
    in bits_of_digits-drop digits p.low skipped p.low_is (omega arith)
    ∙ ap (λ (bits : List Bool). Some bits) (sym front ∙ ap (λ (count : ℕ). take (4 * count) bits) (sym count))

-- the bits of packed digits
packed_by : (low : List ℕ) (bits bytes : List Bool) (read : Option (List Bool))
    → read ≡ Some bits
    → option_map (λ (bits : List Bool). bits ++ zero_bits (4 * (length low % 2))) read ≡ Some bytes
    → bytes ≡ bits ++ zero_bits (4 * (length low % 2))
packed_by low bits bytes None is_read whole = cc
packed_by low bits bytes (Some read) is_read whole = cc

-- digits in the first of bytes of zeros
pub filled_low : (digits filled old : List ℕ) (whole : Bool) (bits : List Bool) (count : ℕ)
    → count ≡ length digits / 2 + min 1 (length digits % 2)
    → length filled ≡ count
    → count ≤ length old
    → old ≡ replicate (length old) 0
    → MatchBool whole (whole_bytes digits ≡ Some (unpack filled)) (bits_of_digits digits ≡ None)
    → bits_of_digits digits ≡ Some bits
    → unpack (filled ++ drop count old) ≡ bits ++ zero_bits (8 * length old - 4 * length digits)
unfolding whole_bytes
filled_low digits filled old false bits count is_count long room zeros told are = cc
filled_low digits filled old true bits count is_count long room zeros told are =
    let rest : drop count old ≡ replicate (length old - count) 0 =
    ap (drop count) zeros ∙ drop-replicate count (length old) 0
    in let more : 4 * (length digits % 2) + 8 * (length old - count) ≡ 8 * length old - 4 * length digits = omega arith
    in unpack-append filled (drop count old)
    ∙ ap (λ (front : List Bool). front ++ unpack (drop count old)) (packed_by digits bits (unpack filled) (bits_of_digits digits) are told)
    ∙ ap (λ (rest : List Bool). (bits ++ zero_bits (4 * (length digits % 2))) ++ rest) (ap unpack rest ∙ unpack-replicate_zero (length old - count))
    ∙ append_assoc bits (zero_bits (4 * (length digits % 2))) (zero_bits (8 * (length old - count)))
    ∙ ap (λ (zeros : List Bool). bits ++ zeros)
    (replicate-append-replicate (4 * (length digits % 2)) (8 * (length old - count)) false ∙ ap zero_bits more)

-- ---- the word

-- the result of packing digits
pub record Packing (width used count : ℕ) (digits new : List ℕ) (bits : List Bool) : Type 0 where
  pub is_used : used ≡ min (width / 4 + min 1 (width % 4)) (length digits)
  pub is_count : count ≡ width / 8 + min 1 (width % 8)
  pub wide : length bits ≡ 4 * length digits
  pub long : length new ≡ count
  pub bits_are : unpack new ≡ take (4 * used) bits ++ zero_bits (8 * count - 4 * used)

pub packing : (width used count size : ℕ) (digits low new : List ℕ) (bits : List Bool)
    → used ≡ min (width / 4 + min 1 (width % 4)) (length digits)
    → count ≡ width / 8 + min 1 (width % 8)
    → bits_of_digits digits ≡ Some bits
    → low ≡ drop (length digits - used) digits
    → ((read : List Bool) → bits_of_digits low ≡ Some read → unpack new ≡ read ++ zero_bits (8 * size - 4 * length low))
    → length new ≡ size
    → size ≡ count
    → Packing width used count digits new bits
packing width used count size digits low new bits is_used is_count are low_is told long size_is =
    let rest : length digits - (length digits - used) ≡ used = omega arith
    in let low_are : bits_of_digits low ≡ Some (take (4 * used) bits) =
    ap bits_of_digits low_is
    ∙ bits_of_digits-drop digits bits (length digits - used) are (omega arith)
    ∙ ap (λ (count : ℕ). Some (take (4 * count) bits)) rest
    in let many : length low ≡ used = ap length low_is ∙ length-drop (length digits - used) digits ∙ rest
    in record {
      is_used = is_used;
      is_count = is_count;
      wide = (hex_of-digits digits bits are).0;
      long = long ∙ size_is;
      bits_are =
          told (take (4 * used) bits) low_are
          ∙ ap (λ (many : ℕ). take (4 * used) bits ++ zero_bits (8 * size - 4 * many)) many
          ∙ ap (λ (size : ℕ). take (4 * used) bits ++ zero_bits (8 * size - 4 * used)) size_is;
    }

number_of_bits-take : (bits : List Bool) (count : ℕ) → number_of_bits (take count bits) ≤ number_of_bits bits
number_of_bits-take bits count =
    let whole = ap number_of_bits (take-append-drop count bits)
    in omega (arith, whole, number_of_bits-append (take count bits) (drop count bits))

pub packing_packed : (width used count : ℕ) (digits new : List ℕ) (bits : List Bool)
    → Packing width used count digits new bits
    → no_ones (drop width bits) ≡ true
    → IsPacked width new
packing_packed width used count digits new bits p high =
    let small : number_of_bits bits < 2 ^ width = ltb-true _ _ (sym (no_ones-drop width bits) ∙ high)
    in let same : number_of_bits (unpack new) ≡ number_of_bits (take (4 * used) bits) =
    ap number_of_bits p.bits_are ∙ number_of_bits-zeros (take (4 * used) bits) (8 * count - 4 * used)
    in let below : number_of_bits (unpack new) < 2 ^ width = omega (arith, number_of_bits-take bits (4 * used))
    in let none : no_ones (drop width (unpack new)) ≡ true = no_ones-drop width (unpack new) ∙ lt-ltb _ _ below
    in packed_fitted width new (omega (arith, p.long, p.is_count)) none

-- so many of bits with zeros above them
take_zeros : (width count more : ℕ) (bits : List Bool)
    → width ≤ length bits + count
    → width ≤ length bits + more
    → take width (bits ++ zero_bits count) ≡ take width (bits ++ zero_bits more)
take_zeros width count more bits enough enough_more =
    elim (cases_lt width (length bits)) [
      | inl short ↦
          take-append-le width bits (zero_bits count) (omega arith)
          ∙ sym (take-append-le width bits (zero_bits more) (omega arith))
      | inr long ↦
          let parts : length bits + (width - length bits) ≡ width = omega arith
          in rw (← parts)
          (take-append-add bits (zero_bits count) (width - length bits)
          ∙ ap (λ (zeros : List Bool). bits ++ zeros)
          (take-replicate (width - length bits) count false (omega arith) ∙ sym (take-replicate (width - length bits) more false (omega arith)))
          ∙ sym (take-append-add bits (zero_bits more) (width - length bits)))
    ]

pub packing_bits : (width used count : ℕ) (digits new : List ℕ) (bits : List Bool)
    → Packing width used count digits new bits
    → take width (unpack new) ≡ resized width bits
unfolding resized
packing_bits width used count digits new bits p =
    elim (cases_lt used (length digits)) [
      | inl fewer ↦
          let enough : width ≤ 4 * used = omega (arith, p.is_used)
          in let long : length (take (4 * used) bits) ≡ 4 * used = rw length-take (omega (arith, p.wide))
          in ap (take width) p.bits_are
          ∙ take-append-le width (take (4 * used) bits) (zero_bits (8 * count - 4 * used)) (omega arith)
          ∙ take-take width (4 * used) bits enough
          ∙ sym (take-append-le width bits (zero_bits width) (omega (arith, p.wide)))
      | inr all ↦
          let whole : take (4 * used) bits ≡ bits = take_all (4 * used) bits (omega (arith, p.wide))
          in ap (take width) p.bits_are
          ∙ ap (λ (front : List Bool). take width (front ++ zero_bits (8 * count - 4 * used))) whole
          ∙ take_zeros width (8 * count - 4 * used) width bits (omega (arith, p.wide, p.is_used, p.is_count)) (omega arith)
    ]

-- ---- few digits

few_by : (width : ℕ) (digits : List ℕ) (bits : List Bool) (none : Bool)
    → (none ≡ true → hex_word width digits ≡ Ok bits)
    → IfSome (if none then Some bits else None) (λ bits. hex_word width digits ≡ Ok bits)
few_by width digits bits true word = word refl
few_by width digits bits false word = _

-- a word in the bytes of digits that are no more than spell one
pub few_hex_word : (width count : ℕ) (digits new : List ℕ)
    → length digits ≤ (width + 3) / 4
    → count ≡ width / 8 + min 1 (width % 8)
    → length new ≡ count
    → bits_of_digits digits ≡ Some (hex_bits digits)
    → unpack new ≡ hex_bits digits ++ zero_bits (8 * count - 4 * length digits)
    → IfSome (fitted width (unpack new)) (λ bits. hex_word width digits ≡ Ok bits)
unfolding fitted
few_hex_word width count digits new few is_count long are filled =
    let bits = hex_bits digits
    in let wide = hex_of-digits digits bits are
    in let packs : Packing width (length digits) count digits new bits =
    record {
      is_used = omega arith;
      is_count = is_count;
      wide = wide.0;
      long = long;
      bits_are =
          filled
          ∙ ap (λ (front : List Bool). front ++ zero_bits (8 * count - 4 * length digits))
          (sym (take_all (4 * length digits) bits (omega (arith, wide.0))));
    }
    in let same : no_ones (drop width (unpack new)) ≡ no_ones (drop width bits) =
    no_ones-drop width (unpack new)
    ∙ ap (λ (number : ℕ). ltb number (2 ^ width)) (ap number_of_bits filled ∙ number_of_bits-zeros bits (8 * count - 4 * length digits))
    ∙ sym (no_ones-drop width bits)
    in few_by width digits (take width (unpack new)) (no_ones (drop width (unpack new)))
    (λ none. hex_word-read width digits are (sym same ∙ none)
    ∙ ap (λ (bits : List Bool). Ok bits) (sym (packing_bits width (length digits) count digits new bits packs)))
