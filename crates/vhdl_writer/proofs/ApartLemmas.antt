-- Lists no two of whose things have one key.
use Rattle.std.proofs.Common.{◌≡◌, ℕ, zero, suc, ◌<◌, ◌⊎◌, inl, inr, List, [], ◌∷◌, ◌++◌, length, Option, Some, Contains, slice_get, slice_index_or, refl, sym, ap, ◌∙◌, subst, arith}
use Rattle.std.specs.List.{flat_map}
use Rattle.std.proofs.lemmas.List.Elements.{Contains-append_cases, Contains-append_left, Contains-append_right}
use Rattle.til_resolve.specs.SoundProject.{AreDistinct}
use Rattle.link_check.proofs.NetLemmas.{Contains-cons, Contains-none}

-- ---- things of a list

pub Contains-first : {A : Type 0} (x : A) (xs : List A) → Contains (x ∷ xs) x
Contains-first x xs = (zero, omega arith, refl)

pub Contains-later : {A : Type 0} (x : A) (xs : List A) (y : A) → Contains xs y → Contains (x ∷ xs) y
Contains-later x xs y there = (suc there.0, omega (arith, there.1), there.2)

pub Contains-at : {A : Type 0} (xs : List A) (i : ℕ) (x : A) → slice_get xs i ≡ Some x → Contains xs x
Contains-at [] i x at = absurd cc
Contains-at (y ∷ xs) zero x at = (zero, omega arith, cc)
Contains-at (y ∷ xs) (suc i) x at = Contains-later y xs x (Contains-at xs i x at)

-- a thing of lists one after another is one of some list
pub Contains-flat : {X A : Type 0} (f : X → List A) (xs : List X) (y : A) → Contains (flat_map f xs) y → (x : X) × Contains xs x × Contains (f x) y
Contains-flat f [] y there = absurd (Contains-none y there)
Contains-flat {X} {A} f (x ∷ xs) y there = by (Contains-append_cases (f x) (flat_map f xs) y there) (Contains-flat f xs y)
  where
    by : Contains (f x) y ⊎ Contains (flat_map f xs) y → (Contains (flat_map f xs) y → (z : X) × Contains xs z × Contains (f z) y) → (z : X) × Contains (x ∷ xs) z × Contains (f z) y
    by (inl here) rest = (x, Contains-first x xs, here)
    by (inr behind) rest = let found = rest behind in (found.0, Contains-later x xs found.0 found.1, found.2)

pub Contains-flat_in : {X A : Type 0} (f : X → List A) (xs : List X) (x : X) (y : A) → Contains xs x → Contains (f x) y → Contains (flat_map f xs) y
Contains-flat_in f [] x y there here = absurd (Contains-none x there)
Contains-flat_in {X} {A} f (z ∷ xs) x y there here = by (Contains-cons z xs x there) (Contains-flat_in f xs x y)
  where
    by : (z ≡ x) ⊎ Contains xs x → (Contains xs x → Contains (f x) y → Contains (flat_map f xs) y) → Contains (flat_map f (z ∷ xs)) y
    by (inl same) rest = Contains-append_left (f z) (flat_map f xs) y (subst (λ (w : X). Contains (f w) y) (sym same) here)
    by (inr behind) rest = Contains-append_right (f z) (flat_map f xs) y (rest behind here)

-- ---- keys

-- each has another key than those behind it
abbrev pub AreApart : {A K : Type 0} → (A → K) → List A → Type 0
AreApart key [] = Unit {0}
AreApart {A} key (x ∷ xs) = ((y : A) → Contains xs y → key x ≡ key y → ⊥) × AreApart key xs

pub apart-distinct : {A K : Type 0} (key : A → K) (xs : List A) → AreApart key xs → AreDistinct key xs
apart-distinct key [] apart i j one other here there same = absurd cc
apart-distinct {A} {K} key (x ∷ xs) apart zero zero one other here there same = refl
apart-distinct {A} {K} key (x ∷ xs) apart zero (suc j) one other here there same =
    let is : x ≡ one = cc in absurd (apart.0 other (Contains-at xs j other there) (ap key is ∙ same))
apart-distinct {A} {K} key (x ∷ xs) apart (suc i) zero one other here there same =
    let is : x ≡ other = cc in absurd (apart.0 one (Contains-at xs i one here) (ap key is ∙ sym same))
apart-distinct {A} {K} key (x ∷ xs) apart (suc i) (suc j) one other here there same = ap (λ (n : ℕ). suc n) (apart-distinct key xs apart.1 i j one other here there same)

-- a thing of a list stands somewhere
pub at-somewhere : {A : Type 0} (xs : List A) (x : A) → Contains xs x → (i : ℕ) × (slice_get xs i ≡ Some x)
at-somewhere [] x there = absurd (Contains-none x there)
at-somewhere {A} (y ∷ xs) x there = by (Contains-cons y xs x there) (at-somewhere xs x)
  where
    by : (y ≡ x) ⊎ Contains xs x → (Contains xs x → (i : ℕ) × (slice_get xs i ≡ Some x)) → (i : ℕ) × (slice_get (y ∷ xs) i ≡ Some x)
    by (inl same) rest = (zero, ap (λ (z : A). Some z) same)
    by (inr later) rest = let found = rest later in (suc found.0, found.1)

pub distinct-apart : {A K : Type 0} (key : A → K) (xs : List A) → AreDistinct key xs → AreApart key xs
distinct-apart key [] distinct = tt
distinct-apart {A} {K} key (x ∷ xs) distinct = (
  λ y there same. let found = at-somewhere xs y there in let clash = distinct zero (suc found.0) x y refl found.1 same in absurd cc,
  distinct-apart key xs (λ i j one other here there same. less i j (distinct (suc i) (suc j) one other here there same)),
)
  where
    less : (i j : ℕ) → suc i ≡ suc j → i ≡ j
    less i j e = omega (arith, e)

pub apart-append : {A K : Type 0} (key : A → K) (xs ys : List A) → AreApart key xs → AreApart key ys → ((x y : A) → Contains xs x → Contains ys y → key x ≡ key y → ⊥) → AreApart key (xs ++ ys)
apart-append key [] ys front back cross = back
apart-append {A} {K} key (x ∷ xs) ys front back cross = (
  λ y there same. by y same (Contains-append_cases xs ys y there),
  apart-append key xs ys front.1 back (λ a b inside behind. cross a b (Contains-later x xs a inside) behind),
)
  where
    by : (y : A) → key x ≡ key y → Contains xs y ⊎ Contains ys y → ⊥
    by y same (inl inside) = front.0 y inside same
    by y same (inr behind) = cross x y (Contains-first x xs) behind same

-- lists of things apart, one after another, where a key belongs to one list alone
pub apart-flat : {X A K : Type 0} (key : A → K) (f : X → List A) (xs : List X) → AreApart (λ (x : X). x) xs → ((x : X) → Contains xs x → AreApart key (f x))
    → ((x z : X) (y w : A) → Contains xs x → Contains xs z → Contains (f x) y → Contains (f z) w → key y ≡ key w → x ≡ z) → AreApart key (flat_map f xs)
apart-flat key f [] once each meet = tt
apart-flat {X} {A} {K} key f (x ∷ xs) once each meet =
    apart-append key (f x) (flat_map f xs) (each x (Contains-first x xs))
    (apart-flat key f xs once.1 (λ z inside. each z (Contains-later x xs z inside)) (λ a b y w i j. meet a b y w (Contains-later x xs a i) (Contains-later x xs b j)))
    (λ y w here behind same. cross y w here same (Contains-flat f xs w behind))
  where
    cross : (y w : A) → Contains (f x) y → key y ≡ key w → (z : X) × Contains xs z × Contains (f z) w → ⊥
    cross y w here same found = once.0 found.0 found.1 (meet x found.0 y w (Contains-first x xs) (Contains-later x xs found.0 found.1) here found.2 same)
