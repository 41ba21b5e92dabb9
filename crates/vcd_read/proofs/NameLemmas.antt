-- Marks in names.
use Rattle.std.proofs.Common.{◌≡◌, ◌∙◌, ℕ, zero, suc, ◌<◌, List, [], ◌∷◌, length, take, drop, get_or, Some, None, if◌then◌else◌, ap, arith}
use Rattle.std.proofs.lemmas.Bool.{eq-eqb, ne_eqb}
use Rattle.vcd_read.specs.Words.{before_last, before_mark}

-- a mark after which there is none is the last
pub before_last-at : (mark : ℕ) (text : List ℕ) (place : ℕ) → place < length text → get_or text place 0 ≡ mark
    → before_last mark (drop (suc place) text) ≡ None → before_last mark text ≡ Some (take place text)
unfolding before_mark
before_last-at mark [] place within is none = absurd (omega arith)
before_last-at mark (byte ∷ bytes) zero within is none = ap (before_mark mark byte) none ∙ ap (λ test. if test then Some [] else None) (eq-eqb byte mark is)
before_last-at mark (byte ∷ bytes) (suc place) within is none = ap (before_mark mark byte) (before_last-at mark bytes place (omega arith) is none)

-- a byte that is no mark, before none
pub before_last-none : (mark : ℕ) (text : List ℕ) (place : ℕ) → place < length text → (get_or text place 0 ≡ mark → ⊥)
    → before_last mark (drop (suc place) text) ≡ None → before_last mark (drop place text) ≡ None
unfolding before_mark
before_last-none mark [] place within is none = absurd (omega arith)
before_last-none mark (byte ∷ bytes) zero within is none = ap (before_mark mark byte) none ∙ ap (λ test. if test then Some [] else None) (ne_eqb byte mark is)
before_last-none mark (byte ∷ bytes) (suc place) within is none = before_last-none mark bytes place (omega arith) is none
