-- The first place in a list at which a test passes: of a list that grows, of a mapped list, of tests that agree.
use Rattle.std.proofs.Common.{◌≡◌, ℕ, suc, ◌+◌, ◌<◌, Bool, true, false, cond, ltb, not, ◌||◌, List, [], ◌∷◌, ◌++◌, length, map, take, get_or, Option, Some, None, is_some, option_map, position, refl, sym, ap, ◌∙◌, arith}
use Rattle.std.specs.List.{position_or_len, list_any}
use Rattle.std.specs.Option.{option_or}
use Rattle.std.proofs.lemmas.Bool.{ltb-true, ltb-false, lt-ltb, le-ltb}
use Rattle.std.proofs.lemmas.List.{take_more}
use Rattle.std.proofs.lemmas.List.Sums.{prefix_len-le-length}

-- ---- by the first element

shifted : (m n : ℕ) → cond (ltb (1 + m) (suc n)) (Some (1 + m)) None ≡ option_map suc (cond (ltb m n) (Some m) None)
shifted m n = by (ltb m n) refl
  where
    by : (b : Bool) → ltb m n ≡ b → cond (ltb (1 + m) (suc n)) (Some (1 + m)) None ≡ option_map suc (cond b (Some m) None)
    by true below = ap (λ b. cond b (Some (1 + m)) None) (lt-ltb (1 + m) (suc n) (omega (arith, ltb-true m n below))) ∙ ap (λ (k : ℕ). Some k) (omega arith)
    by false above = ap (λ b. cond b (Some (1 + m)) None) (le-ltb (1 + m) (suc n) (omega (arith, ltb-false m n above)))

pub position-cons : {X : Type 0} (p : X → Bool) (x : X) (xs : List X) → position p (x ∷ xs) ≡ cond (p x) (Some 0) (option_map suc (position p xs))
position-cons p x xs = by (p x)
  where
    by : (b : Bool) → cond (ltb (cond (not b) (1 + position_or_len p xs) 0) (suc (length xs))) (Some (cond (not b) (1 + position_or_len p xs) 0)) None
        ≡ cond b (Some 0) (option_map suc (position p xs))
    by true = ap (λ b. cond b (Some 0) None) (lt-ltb 0 (suc (length xs)) (omega arith))
    by false = shifted (position_or_len p xs) (length xs)

-- ---- one element more at the end

pub position-push : {X : Type 0} (p : X → Bool) (xs : List X) (y : X) → position p (xs ++ y ∷ []) ≡ option_or (position p xs) (cond (p y) (Some (length xs)) None)
position-push p [] y = position-cons p y []
position-push p (x ∷ xs) y = position-cons p x (xs ++ y ∷ []) ∙ ap (λ (o : Option ℕ). cond (p x) (Some 0) (option_map suc o)) (position-push p xs y)
    ∙ by (p x) ∙ ap (λ (o : Option ℕ). option_or o (cond (p y) (Some (suc (length xs))) None)) (sym (position-cons p x xs))
  where
    after : (o : Option ℕ) (b : Bool) → option_map suc (option_or o (cond b (Some (length xs)) None)) ≡ option_or (option_map suc o) (cond b (Some (suc (length xs))) None)
    after None true = refl
    after None false = refl
    after (Some n) b = refl

    by : (b : Bool) → cond b (Some 0) (option_map suc (option_or (position p xs) (cond (p y) (Some (length xs)) None)))
        ≡ option_or (cond b (Some 0) (option_map suc (position p xs))) (cond (p y) (Some (suc (length xs))) None)
    by true = refl
    by false = after (position p xs) (p y)

-- the same of a list so far
pub position-more : {X : Type 0} (p : X → Bool) (xs : List X) (i : ℕ) (x : X) → i < length xs → x ≡ get_or xs i x
    → position p (take (i + 1) xs) ≡ option_or (position p (take i xs)) (cond (p x) (Some (length (take i xs))) None)
position-more p xs i x within is = ap (position p) (take_more xs i x within) ∙ ap (λ y. position p (take i xs ++ y ∷ [])) (sym is) ∙ position-push p (take i xs) x

-- ---- the element that a test finds

pub list_any-position : {X : Type 0} (p : X → Bool) (xs : List X) → list_any p xs ≡ is_some (position p xs)
list_any-position p [] = refl
list_any-position p (x ∷ xs) = by (p x) (list_any-position p xs) ∙ ap is_some (sym (position-cons p x xs))
  where
    inside : (o : Option ℕ) → is_some o ≡ is_some (option_map suc o)
    inside None = refl
    inside (Some n) = refl

    by : (b : Bool) → list_any p xs ≡ is_some (position p xs) → (b || list_any p xs) ≡ is_some (cond b (Some 0) (option_map suc (position p xs)))
    by true same = refl
    by false same = same ∙ inside (position p xs)

-- the place that is found is the number of elements before it
pub position_or_len-found : {X : Type 0} (p : X → Bool) (xs : List X) (n : ℕ) → position p xs ≡ Some n → position_or_len p xs ≡ n
position_or_len-found p xs n found = by (ltb (position_or_len p xs) (length xs)) found
  where
    by : (b : Bool) → cond b (Some (position_or_len p xs)) None ≡ Some n → position_or_len p xs ≡ n
    by true same = cc
    by false same = cc

pub position_or_len-none : {X : Type 0} (p : X → Bool) (xs : List X) → position p xs ≡ None → position_or_len p xs ≡ length xs
position_or_len-none p xs none = by (ltb (position_or_len p xs) (length xs)) refl none
  where
    by : (b : Bool) → ltb (position_or_len p xs) (length xs) ≡ b → cond b (Some (position_or_len p xs)) None ≡ None → position_or_len p xs ≡ length xs
    by true test same = cc
    by false test same = omega (arith, ltb-false (position_or_len p xs) (length xs) test, prefix_len-le-length (λ x. not (p x)) xs)

pub position-none : {X : Type 0} (p : X → Bool) (xs : List X) → ((k : ℕ) (d : X) → k < length xs → p (get_or xs k d) ≡ false) → position p xs ≡ None
position-none p [] never = refl
position-none p (x ∷ xs) never = position-cons p x xs ∙ ap (λ b. cond b (Some 0) (option_map suc (position p xs))) (never 0 x (omega arith))
    ∙ ap (λ (o : Option ℕ). option_map suc o) (position-none p xs (λ k d within. never (suc k) d (omega arith)))

-- tests that agree on each element
pub position-same : {X : Type 0} (p q : X → Bool) (xs : List X) → ((k : ℕ) (d : X) → k < length xs → p (get_or xs k d) ≡ q (get_or xs k d)) → position p xs ≡ position q xs
position-same p q [] same = refl
position-same p q (x ∷ xs) same = position-cons p x xs
    ∙ ap (λ b. cond b (Some 0) (option_map suc (position p xs))) (same 0 x (omega arith))
    ∙ ap (λ (o : Option ℕ). cond (q x) (Some 0) (option_map suc o)) (position-same p q xs (λ k d within. same (suc k) d (omega arith)))
    ∙ sym (position-cons q x xs)

pub position-map : {X Y : Type 0} (p : Y → Bool) (f : X → Y) (xs : List X) → position p (map f xs) ≡ position (λ x. p (f x)) xs
position-map p f [] = refl
position-map p f (x ∷ xs) = position-cons p (f x) (map f xs)
    ∙ ap (λ (o : Option ℕ). cond (p (f x)) (Some 0) (option_map suc o)) (position-map p f xs)
    ∙ sym (position-cons (λ y. p (f y)) x xs)
