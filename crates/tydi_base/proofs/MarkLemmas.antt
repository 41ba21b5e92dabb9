-- Bytes of one kind among the lanes of a vector, as the ones of a number.
use Rattle.std.proofs.Common.{◌≡◌, ◌↔◌, ℕ, zero, suc, ◌<◌, List, [], ◌∷◌, Bool, true, false, cond, eqb, map, length, get_or, refl, sym, arith, ◌∙◌}
use Rattle.std.specs.Int.{bit_at}
use Rattle.std.specs.Simd.Lanes.{mask_l}
use Rattle.std.proofs.lemmas.Simd.{bit_mask_l}
use Rattle.std.proofs.lemmas.Bool.{eqb-true, eqb-false}

lane_is : (x byte : ℕ) (test : Bool) → eqb x byte ≡ test → (cond {A = ℕ} test 1 0 ≡ 1) ↔ (x ≡ byte)
lane_is x byte true is = (λ one. eqb-true x byte is, λ same. refl)
lane_is x byte false is = (λ one. absurd (omega arith), λ same. absurd (eqb-false x byte is same))

lanes_are : (byte : ℕ) (lanes : List ℕ) (k : ℕ) → (cond {A = ℕ} (get_or (map (λ x. eqb x byte) lanes) k false) 1 0 ≡ 1) ↔ (k < length lanes × (get_or lanes k 0 ≡ byte))
lanes_are byte [] k = (λ one. absurd (omega arith), λ both. absurd (omega (arith, both.0)))
lanes_are byte (x ∷ lanes) zero =
    let here = lane_is x byte (eqb x byte) refl in
    (λ one. (omega arith, here.0 one), λ both. here.1 both.1)
lanes_are byte (x ∷ lanes) (suc k) =
    let there = lanes_are byte lanes k in
    (λ one. let both = there.0 one in (omega (arith, both.0), both.1), λ both. there.1 (omega (arith, both.0), both.1))

-- a bit is a one where the lane is the byte
pub marks-lanes : (byte : ℕ) (lanes : List ℕ) (k : ℕ) → (bit_at (mask_l (map (λ x. eqb x byte) lanes)) k ≡ 1) ↔ (k < length lanes × (get_or lanes k 0 ≡ byte))
marks-lanes byte lanes k =
    let bit : bit_at (mask_l (map (λ x. eqb x byte) lanes)) k ≡ cond (get_or (map (λ x. eqb x byte) lanes) k false) 1 0 = bit_mask_l (map (λ x. eqb x byte) lanes) k in
    let lane = lanes_are byte lanes k in
    (λ one. lane.0 (sym bit ∙ one), λ both. bit ∙ lane.1 both)
