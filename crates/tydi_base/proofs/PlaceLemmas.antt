-- Elements of a list by their place.
use Rattle.std.proofs.Common.{◌≡◌, ℕ, zero, suc, ◌<◌, ◌≤◌, ◌⊎◌, inl, inr, Bool, true, false, eqb, List, [], ◌∷◌, ◌++◌, length, take, Some, refl, arith}
use Rattle.std.specs.List.{slice_get}
use Rattle.std.proofs.Math.ListN.{set}
use Rattle.std.proofs.lemmas.Bool.{eqb-true, eq-eqb}
use Rattle.std.proofs.lemmas.List.{take-append-le}

pub slice_get-front : {A : Type 0} (a b : List A) (c : ℕ) → c < length a → slice_get (a ++ b) c ≡ slice_get a c
slice_get-front [] b c within = absurd (omega arith)
slice_get-front (x ∷ a) b zero within = refl
slice_get-front (x ∷ a) b (suc c) within = slice_get-front a b c (omega arith)

pub slice_get-next : {A : Type 0} (a : List A) (x : A) (c : ℕ) → c ≡ length a → slice_get (a ++ x ∷ []) c ≡ Some x
slice_get-next [] x zero is = refl
slice_get-next [] x (suc c) is = absurd (omega arith)
slice_get-next (y ∷ a) x zero is = absurd (omega arith)
slice_get-next (y ∷ a) x (suc c) is = slice_get-next a x c (omega arith)

pub slice_get-there : {A : Type 0} (xs : List A) (i : ℕ) → i < length xs → (x : A) × (slice_get xs i ≡ Some x)
slice_get-there [] i within = absurd (omega arith)
slice_get-there (x ∷ xs) zero within = (x, refl)
slice_get-there (x ∷ xs) (suc i) within = slice_get-there xs i (omega arith)

pub same_or_other : (i j : ℕ) → (i ≡ j) ⊎ (i ≡ j → ⊥)
same_or_other i j = by_test (eqb i j) refl
  where
    by_test : (test : Bool) → eqb i j ≡ test → (i ≡ j) ⊎ (i ≡ j → ⊥)
    by_test true is = inl (eqb-true i j is)
    by_test false other = inr (λ same. let yes_so = eq-eqb i j same in cc)

pub slice_get-other : {A : Type 0} (xs : List A) (x : A) (i : ℕ) → (i ≡ length xs → ⊥) → slice_get (xs ++ x ∷ []) i ≡ slice_get xs i
slice_get-other [] x zero other = absurd (other refl)
slice_get-other [] x (suc i) other = refl
slice_get-other (y ∷ xs) x zero other = refl
slice_get-other (y ∷ xs) x (suc i) other = slice_get-other xs x i (λ same. other (omega arith))

pub take-front : {A : Type 0} (xs : List A) (x : A) (n : ℕ) → n ≤ length xs → take n (xs ++ x ∷ []) ≡ take n xs
take-front xs x n within = take-append-le n xs (x ∷ []) within

pub slice_get-set_same : {A : Type 0} (xs : List A) (i : ℕ) (x : A) → i < length xs → slice_get (set xs i x) i ≡ Some x
slice_get-set_same [] i x within = absurd (omega arith)
slice_get-set_same (y ∷ xs) zero x within = refl
slice_get-set_same (y ∷ xs) (suc i) x within = slice_get-set_same xs i x (omega arith)

pub slice_get-set_other : {A : Type 0} (xs : List A) (i j : ℕ) (x : A) → (i ≡ j → ⊥) → slice_get (set xs i x) j ≡ slice_get xs j
slice_get-set_other [] i j x other = refl
slice_get-set_other (y ∷ xs) zero zero x other = absurd (other refl)
slice_get-set_other (y ∷ xs) zero (suc j) x other = refl
slice_get-set_other (y ∷ xs) (suc i) zero x other = refl
slice_get-set_other (y ∷ xs) (suc i) (suc j) x other = slice_get-set_other xs i j x (λ same. other (omega arith))
