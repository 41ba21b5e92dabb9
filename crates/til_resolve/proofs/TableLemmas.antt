-- Tables with an entry for each number, and what holds of each entry.
use Rattle.std.proofs.Common.{◌≡◌, ◌⊎◌, inl, inr, ℕ, zero, suc, ◌<◌, ◌≤◌, List, length, get_or, set, replicate, refl, sym, subst}
use Rattle.std.proofs.lemmas.Bool.{cases_eq, cases_lt}
use Rattle.std.proofs.lemmas.List.{get_or-set_same, get_or-set_other, set_past}

-- a table of one entry has no other
pub get_or-replicate : {X : Type 0} (entry : X) (n k : ℕ) → get_or (replicate n entry) k entry ≡ entry
get_or-replicate entry zero k = refl
get_or-replicate entry (suc n) zero = refl
get_or-replicate entry (suc n) (suc k) = get_or-replicate entry n k

-- where an entry is set of which this holds, it holds of each as before
pub each-kept : {X : Type 0} (none : X) (Is : ℕ → X → Type 0) (old new : List X) (number : ℕ) (entry : X) → new ≡ set old number entry → Is number entry
    → ((one : ℕ) → Is one (get_or old one none)) → (one : ℕ) → Is one (get_or new one none)
each-kept {X} none Is old new number entry is right before one = subst (λ (l : List X). Is one (get_or l one none)) (sym is) (by (cases_eq one number) (cases_lt number (length old)))
  where
    by : (one ≡ number) ⊎ (one ≡ number → ⊥) → (number < length old) ⊎ (length old ≤ number) → Is one (get_or (set old number entry) one none)
    by (inl same) (inl within) =
        subst (λ (k : ℕ). Is k (get_or (set old number entry) k none)) (sym same) (subst (Is number) (sym (get_or-set_same old number entry none within)) right)
    by (inl same) (inr past) = subst (λ (l : List X). Is one (get_or l one none)) (sym (set_past old number entry past)) (before one)
    by (inr apart) side = subst (Is one) (sym (get_or-set_other old number one entry none apart)) (before one)
