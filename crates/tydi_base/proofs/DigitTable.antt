-- The table of the values of hexadecimal digits.
use Rattle.std.proofs.Common.{◌≡◌, ℕ, zero, suc, ◌+◌, ◌<◌, ◌≤◌, Bool, true, ◌&&◌, eqb, List, [], ◌∷◌, length, get_or, Option, Some, None, refl, sym, ap, ◌∙◌, arith}
use Rattle.std.proofs.lemmas.Bool.{eqb-true, and_parts}
use Rattle.tydi_base.specs.Hex.{digit_of, marked_digit}
use Rattle.tydi_base.specs.declared.hex.TheConstants.{VALUES}
use Rattle.tydi_base.proofs.HexLanes.{digit_of-marked, marked_digit-some}
use Rattle.tydi_base.proofs.HexLemmas.{hex_digit-digit_of}

-- these are the values of the bytes from this one on
abbrev are_from : ℕ → List ℕ → Bool
are_from at [] = true
are_from at (value ∷ values) = eqb value (marked_digit at) && are_from (suc at) values

value_from : (at : ℕ) (values : List ℕ) (k : ℕ) → are_from at values ≡ true → k < length values → get_or values k 0 ≡ marked_digit (at + k)
value_from at [] k are lt = absurd (omega arith)
value_from at (value ∷ values) zero are lt =
    let both = and_parts (eqb value (marked_digit at)) (are_from (suc at) values) are in
    let same : at ≡ at + 0 = omega arith in
    eqb-true value (marked_digit at) both.0 ∙ ap marked_digit same
value_from at (value ∷ values) (suc k) are lt =
    let both = and_parts (eqb value (marked_digit at)) (are_from (suc at) values) are in
    let same : suc at + k ≡ at + suc k = omega arith in
    value_from (suc at) values k both.1 (omega arith) ∙ ap marked_digit same

table_is : are_from 0 VALUES ≡ true
unfolding marked_digit digit_of
table_is = refl

module _ (byte at : ℕ) (is : at ≡ byte) (fits : byte < 256) where
  value_is : get_or VALUES at 0 ≡ marked_digit byte
  value_is = let same : 0 + at ≡ byte = omega (arith, is) in value_from 0 VALUES at table_is (omega arith) ∙ ap marked_digit same

  pub digit_some : get_or VALUES at 0 < 16 → Some (get_or VALUES at 0) ≡ digit_of byte
  digit_some small = let low : marked_digit byte < 16 = omega (arith, value_is, small) in ap (λ (value : ℕ). Some value) value_is ∙ sym (digit_of-marked byte low)

  none_by : (read : Option ℕ) → digit_of byte ≡ read → 16 ≤ marked_digit byte → None ≡ read
  none_by None is_read large = refl
  none_by (Some value) is_read large =
      let small = hex_digit-digit_of byte value is_read in
      let same = marked_digit-some byte value is_read in
      absurd (omega (arith, small.1, same, large))

  pub digit_none : 16 ≤ get_or VALUES at 0 → None ≡ digit_of byte
  digit_none large = none_by (digit_of byte) refl (omega (arith, value_is, large))
