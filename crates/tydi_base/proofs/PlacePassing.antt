-- Places that are moved over bytes, one by one or along a line.
use Rattle.std.proofs.Common.{◌≡◌, ◌≢◌, ℕ, suc, ◌+◌, ◌<◌, ◌≤◌, Bool, true, false, cond, eqb, List, [], ◌∷◌, ◌++◌, length, take, get_or, refl, ap, ◌∙◌, arith}
use Rattle.std.proofs.Math.Seq.{take-suc}
use Rattle.std.proofs.lemmas.Bool.Decides.{nat_tests}
use Rattle.std.proofs.lemmas.List.Elements.{All-head, All-tail}
use Rattle.tydi_base.specs.declared.place.Place.{Place}
use Rattle.tydi_base.specs.Pieces.{Lacks}
use Rattle.tydi_base.specs.Places.{along, place_after, place_past}

-- a place whose line and column are no more than bytes that stand before it, and one
pub record IsNear (place : Place) : Type 0 where
  pub line : place.line ≤ place.offset + 1
  pub column : place.column ≤ place.offset + 1

abbrev next_line : Place → Place
next_line place = record { offset = place.offset + 1; line = place.line + 1; column = 1 }

pub offset_after : (place : Place) (byte : ℕ) → (place_after place byte).offset ≡ place.offset + 1
offset_after place byte = by_cases (eqb byte 10)
  where
    by_cases : (ends : Bool) → (cond {A = Place} ends (next_line place) (along place 1)).offset ≡ place.offset + 1
    by_cases true = refl
    by_cases false = refl

pub near_after : (place : Place) (byte : ℕ) → IsNear place → IsNear (place_after place byte)
near_after place byte near = by_cases (eqb byte 10)
  where
    by_cases : (ends : Bool) → IsNear (cond {A = Place} ends (next_line place) (along place 1))
    by_cases true = record { line = let l = near.line in omega arith; column = omega arith }
    by_cases false = record { line = let l = near.line in omega arith; column = let l = near.column in omega arith }

pub near_past : (place : Place) (bytes : List ℕ) → IsNear place → IsNear (place_past place bytes)
near_past place [] near = near
near_past place (byte ∷ bytes) near = near_past (place_after place byte) bytes (near_after place byte near)

pub offset_past : (place : Place) (bytes : List ℕ) → (place_past place bytes).offset ≡ place.offset + length bytes
offset_past place [] = omega arith
offset_past place (byte ∷ bytes) = let next = offset_past (place_after place byte) bytes in let first = offset_after place byte in omega arith

pub place_past-append : (place : Place) (front rest : List ℕ) → place_past place (front ++ rest) ≡ place_past (place_past place front) rest
place_past-append place [] rest = refl
place_past-append place (byte ∷ front) rest = place_past-append (place_after place byte) front rest

-- one byte more is passed
pub past-suc : (place : Place) (bytes : List ℕ) (at : ℕ) → at < length bytes
    → place_past place (take (at + 1) bytes) ≡ place_after (place_past place (take at bytes)) (get_or bytes at 0)
past-suc place bytes at within =
    let more : at + 1 ≡ suc at = omega arith in
    rw (more, take-suc bytes at 0 within) (place_past-append place (take at bytes) (get_or bytes at 0 ∷ []))

-- ---- along a line

pub after-along : (place : Place) (byte : ℕ) → (byte ≡ 10 → ⊥) → place_after place byte ≡ along place 1
after-along place byte other = by_cases (eqb byte 10) refl
  where
    by_cases : (ends : Bool) → eqb byte 10 ≡ ends → cond {A = Place} ends (next_line place) (along place 1) ≡ along place 1
    by_cases true is = absurd (other (grind (arith, nat_tests)))
    by_cases false is = refl

along-suc : (place : Place) (count : ℕ) → along (along place 1) count ≡ along place (suc count)
along-suc place count =
    let offset : place.offset + 1 + count ≡ place.offset + suc count = omega arith in
    let column : place.column + 1 + count ≡ place.column + suc count = omega arith in
    λ i. record { offset = offset i; line = place.line; column = column i }

along-none : (place : Place) → place ≡ along place 0
along-none place =
    let offset : place.offset ≡ place.offset + 0 = omega arith in
    let column : place.column ≡ place.column + 0 = omega arith in
    λ i. record { offset = offset i; line = place.line; column = column i }

pub past-along : (place : Place) (bytes : List ℕ) → Lacks 10 bytes → place_past place bytes ≡ along place (length bytes)
past-along place [] lacks = along-none place
past-along place (byte ∷ bytes) lacks =
    ap (λ p. place_past p bytes) (after-along place byte (All-head (λ b. b ≢ 10) byte bytes lacks))
    ∙ past-along (along place 1) bytes (All-tail (λ b. b ≢ 10) byte bytes lacks) ∙ along-suc place (length bytes)
