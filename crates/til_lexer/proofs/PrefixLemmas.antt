-- How many bytes begin a text before the first one of a kind, as a search for it finds it.
use Rattle.std.proofs.Common.{◌≡◌, ℕ, ◌≤◌, Bool, true, false, not, ◌&&◌, ◌||◌, cond, ltb, eqb, List, length, Option, Some, None, refl, sym, ◌∙◌, arith}
use Rattle.std.specs.List.{position_or_len, prefix_len}
use Rattle.std.specs.Option.{unwrap_or}
use Rattle.std.proofs.lemmas.Bool.Decides.{nat_tests}
use Rattle.std.proofs.lemmas.Grind.{common_steps}
use Rattle.std.proofs.lemmas.List.Sums.{position_or_len_is, prefix_len-le-length}
use Rattle.memchr.specs.Find.{IsFirstByte, is_byte2}

-- the result of std's `position`
abbrev pub position_found : (ℕ → Bool) → List ℕ → Option ℕ
position_found test bytes = cond (ltb (position_or_len test bytes) (length bytes)) (Some (position_or_len test bytes)) None

unwrap_within : (at end : ℕ) → at ≤ end → unwrap_or (cond (ltb at end) (Some at) None) end ≡ at
unwrap_within at end within = grind (arith, common_steps)

not_not : (passes : Bool) → not (not passes) ≡ passes
not_not true = refl
not_not false = refl

neither : (first second : Bool) → not (first || second) ≡ not second && not first
neither true true = refl
neither true false = refl
neither false true = refl
neither false false = refl

-- up to the first byte that fails a test, or in all
pub prefix_by_position : (test : ℕ → Bool) (bytes : List ℕ) (found : Option ℕ) → found ≡ position_found (λ byte. not (test byte)) bytes
    → unwrap_or found (length bytes) ≡ prefix_len test bytes
prefix_by_position test bytes found is =
    rw is (unwrap_within (position_or_len (λ byte. not (test byte)) bytes) (length bytes) (prefix_len-le-length _ bytes)) ∙ (λ i. prefix_len (λ byte. not_not (test byte) i) bytes)

-- up to the first byte that passes a test, or in all
pub prefix_by_first : (test : ℕ → Bool) (bytes : List ℕ) (found : Option ℕ) → IsFirstByte test bytes found → unwrap_or found (length bytes) ≡ position_or_len test bytes
prefix_by_first test bytes None nowhere =
    sym (position_or_len_is test bytes (length bytes) 0 (omega arith) (λ k lt. let other = nowhere k (omega arith) lt in grind (arith, nat_tests)) (λ lt. absurd (omega arith)))
prefix_by_first test bytes (Some at) first =
    sym (position_or_len_is test bytes at 0 (let high = first.0.high in omega arith) (λ k lt. let other = first.0.before k (omega arith) lt in grind (arith, nat_tests)) (λ lt. first.1))

-- up to the first of two bytes, or in all
pub prefix_by_two : (mark other : ℕ) (bytes : List ℕ) (found : Option ℕ) → IsFirstByte (is_byte2 mark other) bytes found
    → unwrap_or found (length bytes) ≡ prefix_len (λ byte. not (eqb byte other) && not (eqb byte mark)) bytes
prefix_by_two mark other bytes found first = prefix_by_first (is_byte2 mark other) bytes found first ∙ (λ i. prefix_len (λ byte. neither (eqb byte mark) (eqb byte other) i) bytes)
