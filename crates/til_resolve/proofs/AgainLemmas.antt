-- Elements that stand again in a growing list, and elements at the declarations before a number.
use Rattle.std.proofs.Common.{◌≡◌, ℕ, ◌+◌, ◌<◌, Bool, true, false, cond, List, [], ◌∷◌, ◌++◌, length, map, take, get_or, Option, Contains, refl, sym, ap, subst, ◌∙◌, append_assoc, add-one}
use Rattle.std.specs.Bool.{then_some}
use Rattle.std.specs.List.{list_any}
use Rattle.std.proofs.lemmas.List.{take_more, map-append}
use Rattle.tydi_base.specs.declared.place.Place.{Place}
use Rattle.til_resolve.specs.Declarations.{before}
use Rattle.til_resolve.specs.Earliest.{IsEarliest, earlier}
use Rattle.til_resolve.specs.Names.{again, seconds}
use Rattle.til_resolve.proofs.EarliestLemmas.{IsEarliest-nil, IsEarliest-single, IsEarliest-append, IsEarliest-at}

pub append_nil : {A : Type 0} (xs : List A) → xs ++ [] ≡ xs
append_nil [] = refl
append_nil (x ∷ xs) = ap (λ (l : List _). x ∷ l) (append_nil xs)

-- ---- elements that stand again

again-push : {A : Type 0} (same : A → A → Bool) (front xs : List A) (y : A)
    → again same front (xs ++ y ∷ []) ≡ again same front xs ++ cond (list_any (λ e. same e y) (front ++ xs)) (y ∷ []) []
again-push same front [] y = ap (λ (l : List _). cond (list_any (λ e. same e y) l) (y ∷ []) []) (sym (append_nil front))
again-push {A} same front (x ∷ xs) y = by (list_any (λ e. same e x) front) (again-push same (front ++ x ∷ []) xs y
    ∙ ap (λ (l : List A). again same (front ++ x ∷ []) xs ++ cond (list_any (λ e. same e y) l) (y ∷ []) []) (append_assoc front (x ∷ []) xs))
  where
    by : (b : Bool)
        → again same (front ++ x ∷ []) (xs ++ y ∷ []) ≡ again same (front ++ x ∷ []) xs ++ cond (list_any (λ e. same e y) (front ++ (x ∷ xs))) (y ∷ []) []
        → cond b (x ∷ again same (front ++ x ∷ []) (xs ++ y ∷ [])) (again same (front ++ x ∷ []) (xs ++ y ∷ []))
        ≡ cond b (x ∷ again same (front ++ x ∷ []) xs) (again same (front ++ x ∷ []) xs) ++ cond (list_any (λ e. same e y) (front ++ (x ∷ xs))) (y ∷ []) []
    by true inner = ap (λ (l : List A). x ∷ l) inner
    by false inner = inner

-- a place that stands in a list or does not
pub IsEarliest-if : (is : Bool) (one : Place) → IsEarliest (Contains (cond is (one ∷ []) [])) (then_some is one)
IsEarliest-if true one = IsEarliest-single one
IsEarliest-if false one = IsEarliest-nil

-- one element more, which stands again or does not
pub seconds-grown : {A : Type 0} (same : A → A → Bool) (place : A → Place) (xs : List A) (y : A)
    → map place (seconds same xs) ++ cond (list_any (λ e. same e y) xs) (place y ∷ []) [] ≡ map place (seconds same (xs ++ y ∷ []))
seconds-grown {A} same place xs y =
    ap (λ (l : List Place). map place (seconds same xs) ++ l) (inside (list_any (λ e. same e y) xs))
    ∙ sym (map-append place (seconds same xs) (cond (list_any (λ e. same e y) xs) (y ∷ []) []))
    ∙ ap (map place) (sym (again-push same [] xs y))
  where
    inside : (b : Bool) → cond b (place y ∷ []) [] ≡ map place (cond b (y ∷ []) [])
    inside true = refl
    inside false = refl

pub seconds-push : {A : Type 0} (same : A → A → Bool) (place : A → Place) (xs : List A) (y : A) (found : Option Place) (is : Bool)
    → is ≡ list_any (λ e. same e y) xs → IsEarliest (Contains (map place (seconds same xs))) found
    → IsEarliest (Contains (map place (seconds same (xs ++ y ∷ [])))) (earlier found (then_some is (place y)))
seconds-push {A} same place xs y found is tested so =
    IsEarliest-at (map place (seconds same xs) ++ cond is (place y ∷ []) []) (map place (seconds same (xs ++ y ∷ []))) (earlier found (then_some is (place y)))
    (ap (λ b. map place (seconds same xs) ++ cond b (place y ∷ []) []) tested ∙ seconds-grown same place xs y)
    (IsEarliest-append (map place (seconds same xs)) (cond is (place y ∷ []) []) found (then_some is (place y)) so (IsEarliest-if is (place y)))

-- the same of a list so far
pub seconds-more : {A : Type 0} (same : A → A → Bool) (place : A → Place) (xs : List A) (i : ℕ) (y : A) (found : Option Place) (is : Bool)
    → i < length xs → y ≡ get_or xs i y → is ≡ list_any (λ e. same e y) (take i xs) → IsEarliest (Contains (map place (seconds same (take i xs)))) found
    → IsEarliest (Contains (map place (seconds same (take (i + 1) xs)))) (earlier found (then_some is (place y)))
seconds-more {A} same place xs i y found is within at tested so =
    subst (λ (l : List A). IsEarliest (Contains (map place (seconds same l))) (earlier found (then_some is (place y))))
    (ap (λ (e : A). take i xs ++ e ∷ []) at ∙ sym (take_more xs i y within)) (seconds-push same place (take i xs) y found is tested so)

-- ---- the declarations before a number

pub IsEarliest-before : (of : ℕ → List Place) (number : ℕ) (one other result : Option Place) → result ≡ earlier one other
    → IsEarliest (Contains (before of number)) one → IsEarliest (Contains (of number)) other → IsEarliest (Contains (before of (number + 1))) result
IsEarliest-before of number one other result is so here =
    subst (IsEarliest (Contains (before of (number + 1)))) (sym is)
    (IsEarliest-at (before of number ++ of number) (before of (number + 1)) (earlier one other) (ap (before of) (sym (add-one number)))
    (IsEarliest-append (before of number) (of number) one other so here))
