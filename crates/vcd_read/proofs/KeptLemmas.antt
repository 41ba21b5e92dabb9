-- The text of rows, as it is kept.
use Rattle.std.proofs.Common.{◌≡◌, ◌∙◌, ℕ, ◌<◌, ◌≤◌, Bool, true, false, List, ◌++◌, length, Some, None, if◌then◌else◌, nat_lt, sym, ap}
use Rattle.std.proofs.Common.{subst, arith}
use Rattle.std.proofs.lemmas.Bool.Decides.{nat_tests}
use Rattle.std.proofs.lemmas.List.{length-append}
use Rattle.vcd_read.specs.Kept.{IsKeptBy, if_kept, most_kept}

-- a text that is too long stays so
pub kept-over : (over : Bool) (kept text more : List ℕ) → over ≡ true → IsKeptBy over kept text → IsKeptBy over kept (text ++ more)
kept-over over kept text more is long =
    let before : most_kept < length text = subst (λ b. IsKeptBy b kept text) is long in
    let whole = length-append text more in
    subst (λ b. IsKeptBy b kept (text ++ more)) (sym is) (omega (arith, before, whole))

-- more of a text that is kept
module _ (over : Bool) (kept text more new : List ℕ) (n : ℕ) (within : over ≡ false) (is : IsKeptBy over kept text) (grown : new ≡ kept ++ more)
    (long : n ≡ length new) where
  whole : new ≡ text ++ more
  whole = let one : (kept ≡ text) × (length text ≤ most_kept) = subst (λ b. IsKeptBy b kept text) within is in grown ∙ ap (λ (l : List ℕ). l ++ more) one.0

  pub kept-more : n ≤ 67108864 → IsKeptBy over new (text ++ more)
  kept-more few = let same = ap length whole in subst (λ b. IsKeptBy b new (text ++ more)) (sym within) (whole, omega (arith, few, long, same))

  pub kept-no-more : (left : List ℕ) → 67108864 < n → IsKeptBy true left (text ++ more)
  kept-no-more left much = let same = ap length whole in omega (arith, much, long, same)

-- ---- the whole text

-- it is too long with its header
pub kept-none : (over : Bool) (kept text front : List ℕ) → over ≡ true → IsKeptBy over kept text → None ≡ if_kept (front ++ text)
kept-none over kept text front is long =
    let before : most_kept < length text = subst (λ b. IsKeptBy b kept text) is long in
    let whole = length-append front text in
    let past : nat_lt most_kept (length (front ++ text)) ≡ true = grind (arith, nat_tests, before, whole) in
    sym (ap (λ (b : Bool). if b then None else Some (front ++ text)) past)
