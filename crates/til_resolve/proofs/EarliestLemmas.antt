-- The first of places: of none, of one, of two lists, of a list that grows.
use Rattle.std.proofs.Common.{◌≡◌, ℕ, ◌+◌, ◌<◌, ◌≤◌, ◌⊎◌, inl, inr, Bool, true, false, cond, ltb, List, [], ◌∷◌, ◌++◌, length, get_or, take, Option, Some, None, Contains, refl, sym, ap, subst, ◌∙◌, arith}
use Rattle.std.specs.List.{flat_map}
use Rattle.std.proofs.lemmas.Bool.{ltb-true, ltb-false}
use Rattle.std.proofs.lemmas.List.{take_more, take_all}
use Rattle.std.proofs.lemmas.List.Elements.{Contains-append_left, Contains-append_right, Contains-append_cases, Contains-push, Contains-push_cases}
use Rattle.std.proofs.lemmas.Grind.{flat_map-append}
use Rattle.tydi_base.specs.declared.place.Place.{Place}
use Rattle.til_resolve.specs.Earliest.{IsEarliest, earlier}

-- no place stands in the empty list
pub Contains-nil : {A : Type 0} (x : A) → ¬ Contains [] x
Contains-nil x there = absurd (omega (arith, there.1))

-- the only element of a list
pub Contains-one : {A : Type 0} (x y : A) → Contains (x ∷ []) y → x ≡ y
Contains-one x y there = by (Contains-push_cases [] x y there)
  where
    by : Contains [] y ⊎ (x ≡ y) → x ≡ y
    by (inl inside) = absurd (Contains-nil y inside)
    by (inr same) = same

pub IsEarliest-none : (Is : Place → Type 0) → ((place : Place) → ¬ Is place) → IsEarliest Is None
IsEarliest-none Is none = record { told = none }

pub IsEarliest-one : (Is : Place → Type 0) (one : Place) → Is one → ((other : Place) → Is other → one ≡ other) → IsEarliest Is (Some one)
IsEarliest-one Is one there only = record { told = record { there = there; first = λ other is. subst (λ (p : Place). one.offset ≤ p.offset) (only other is) (omega arith) } }

-- places of the same
pub IsEarliest-same : (Is Other : Place → Type 0) (found : Option Place) → ((place : Place) → Is place → Other place) → ((place : Place) → Other place → Is place)
    → IsEarliest Is found → IsEarliest Other found
IsEarliest-same Is Other None there back is = record { told = λ place other. is.told place (back place other) }
IsEarliest-same Is Other (Some one) there back is = record { told = record { there = there one is.told.there; first = λ place other. is.told.first place (back place other) } }

-- places of the one kind or of the other
pub IsEarliest-either : (Is Other : Place → Type 0) (one other : Option Place) → IsEarliest Is one → IsEarliest Other other → IsEarliest (λ place. Is place ⊎ Other place) (earlier one other)
IsEarliest-either Is Other None None is other_is = record { told = neither }
  where
    neither : (place : Place) → ¬ (Is place ⊎ Other place)
    neither place (inl there) = is.told place there
    neither place (inr there) = other_is.told place there
IsEarliest-either Is Other None (Some second) is other_is = record { told = record { there = inr other_is.told.there; first = first } }
  where
    first : (place : Place) → Is place ⊎ Other place → second.offset ≤ place.offset
    first place (inl there) = absurd (is.told place there)
    first place (inr there) = other_is.told.first place there
IsEarliest-either Is Other (Some one) None is other_is = record { told = record { there = inl is.told.there; first = first } }
  where
    first : (place : Place) → Is place ⊎ Other place → one.offset ≤ place.offset
    first place (inl there) = is.told.first place there
    first place (inr there) = absurd (other_is.told place there)
IsEarliest-either Is Other (Some one) (Some second) is other_is = by (ltb second.offset one.offset) refl
  where
    by : (b : Bool) → ltb second.offset one.offset ≡ b → IsEarliest (λ place. Is place ⊎ Other place) (cond b (Some second) (Some one))
    by true before = record { told = record { there = inr other_is.told.there; first = first } }
      where
        first : (place : Place) → Is place ⊎ Other place → second.offset ≤ place.offset
        first place (inl there) = omega (arith, is.told.first place there, ltb-true second.offset one.offset before)
        first place (inr there) = other_is.told.first place there
    by false before = record { told = record { there = inl is.told.there; first = first } }
      where
        first : (place : Place) → Is place ⊎ Other place → one.offset ≤ place.offset
        first place (inl there) = is.told.first place there
        first place (inr there) = omega (arith, other_is.told.first place there, ltb-false second.offset one.offset before)

-- ---- lists of places

pub IsEarliest-nil : IsEarliest (Contains []) None
IsEarliest-nil = IsEarliest-none (Contains []) (λ place. Contains-nil place)

pub IsEarliest-single : (one : Place) → IsEarliest (Contains (one ∷ [])) (Some one)
IsEarliest-single one = IsEarliest-one (Contains (one ∷ [])) one (Contains-push [] one) (λ other. Contains-one one other)

pub IsEarliest-append : (front back : List Place) (one other : Option Place) → IsEarliest (Contains front) one → IsEarliest (Contains back) other
    → IsEarliest (Contains (front ++ back)) (earlier one other)
IsEarliest-append front back one other is other_is = IsEarliest-same (λ place. Contains front place ⊎ Contains back place) (Contains (front ++ back)) (earlier one other) joined
    (λ place. Contains-append_cases front back place) (IsEarliest-either (Contains front) (Contains back) one other is other_is)
  where
    joined : (place : Place) → Contains front place ⊎ Contains back place → Contains (front ++ back) place
    joined place (inl there) = Contains-append_left front back place there
    joined place (inr there) = Contains-append_right front back place there

-- an equal list
pub IsEarliest-at : (one other : List Place) (found : Option Place) → one ≡ other → IsEarliest (Contains one) found → IsEarliest (Contains other) found
IsEarliest-at one other found same is = subst (λ (l : List Place). IsEarliest (Contains l) found) same is

-- the places of one thing more
pub IsEarliest-more : {X : Type 0} (of : X → List Place) (xs : List X) (i : ℕ) (x : X) (one other : Option Place) → i < length xs → x ≡ get_or xs i x
    → IsEarliest (Contains (flat_map of (take i xs))) one → IsEarliest (Contains (of x)) other → IsEarliest (Contains (flat_map of (take (i + 1) xs))) (earlier one other)
IsEarliest-more of xs i x one other within is so here =
    IsEarliest-at (flat_map of (take i xs) ++ of x) (flat_map of (take (i + 1) xs)) (earlier one other) (sym grown)
    (IsEarliest-append (flat_map of (take i xs)) (of x) one other so here)
  where
    last : flat_map of (x ∷ []) ≡ of x
    last = append-nil (of x)
      where
        append-nil : (l : List Place) → l ++ [] ≡ l
        append-nil [] = refl
        append-nil (y ∷ ys) = ap (λ (l : List Place). y ∷ l) (append-nil ys)

    grown : flat_map of (take (i + 1) xs) ≡ flat_map of (take i xs) ++ of x
    grown = ap (flat_map of) (take_more xs i x within) ∙ ap (λ y. flat_map of (take i xs ++ y ∷ [])) (sym is)
        ∙ flat_map-append of (take i xs) (x ∷ []) ∙ ap (λ (l : List Place). flat_map of (take i xs) ++ l) last

-- the places of a list of things, which are those of its parts
pub IsEarliest-grown : {X : Type 0} (of : List X → List Place) (xs : List X) (i : ℕ) (x : X) (one other result : Option Place)
    → ((front back : List X) → of (front ++ back) ≡ of front ++ of back) → i < length xs → x ≡ get_or xs i x → result ≡ earlier one other
    → IsEarliest (Contains (of (take i xs))) one → IsEarliest (Contains (of (x ∷ []))) other → IsEarliest (Contains (of (take (i + 1) xs))) result
IsEarliest-grown {X} of xs i x one other result splits within is told so here =
    subst (IsEarliest (Contains (of (take (i + 1) xs)))) (sym told)
    (IsEarliest-at (of (take i xs) ++ of (x ∷ [])) (of (take (i + 1) xs)) (earlier one other)
    (sym (splits (take i xs) (x ∷ [])) ∙ ap of (sym (take_more xs i x within ∙ ap (λ (y : X). take i xs ++ y ∷ []) (sym is))))
    (IsEarliest-append (of (take i xs)) (of (x ∷ [])) one other so here))

-- the places of the whole list
pub IsEarliest-whole : {X : Type 0} (of : List X → List Place) (xs : List X) (i : ℕ) (found : Option Place) → length xs ≤ i → IsEarliest (Contains (of (take i xs))) found
    → IsEarliest (Contains (of xs)) found
IsEarliest-whole {X} of xs i found done so = subst (λ (l : List X). IsEarliest (Contains (of l)) found) (take_all i xs done) so
