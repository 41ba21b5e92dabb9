-- The order of levels, and of lists of numbers.
use Rattle.std.proofs.Common.{◌≡◌, ℕ, ◌<◌, ◌≤◌, ◌⊎◌, inl, inr, ⊎_elim, Bool, true, false, ◌||◌, ◌&&◌, ◌==◌, nat_lt, nat_le, List, [], ◌∷◌, length, refl, sym, ◌∙◌, arith}
use Rattle.std.proofs.lemmas.Bool.Decides.{nat_tests}
use Rattle.tydi_base.specs.Level.{LevelNumbers, are_at_most, at_most, numbers_of, OrderIsReflexive, OrderIsAntisymmetric, OrderIsTransitive, OrderIsTotal, NumbersRise}

-- ---- one number, and a test of the others

taken : (n m : ℕ) (rest : Bool) → (nat_lt n m || (n == m && rest)) ≡ true → (n < m) ⊎ ((n ≡ m) × (rest ≡ true))
taken n m true e = ⊎_elim (λ less. inl less) (λ same. inr (same, refl)) (less_or_same (grind (arith, nat_tests)))
  where
    less_or_same : n ≤ m → (n < m) ⊎ (n ≡ m)
    less_or_same le = by_test (n == m) refl
      where
        by_test : (test : Bool) → (n == m) ≡ test → (n < m) ⊎ (n ≡ m)
        by_test true is = inr (grind (arith, nat_tests))
        by_test false is = inl (grind (arith, nat_tests))
taken n m false e = inl (grind (arith, nat_tests))

less : (n m : ℕ) (rest : Bool) → n < m → (nat_lt n m || (n == m && rest)) ≡ true
less n m rest lt = grind (arith, nat_tests)

same : (n m : ℕ) (rest : Bool) → n ≡ m → rest ≡ true → (nat_lt n m || (n == m && rest)) ≡ true
same n m rest is e = grind (arith, nat_tests)

-- ---- lists

reflexive : (numbers : List ℕ) → are_at_most numbers numbers ≡ true
unfolding are_at_most
reflexive [] = refl
reflexive (n ∷ numbers) = same n n (are_at_most numbers numbers) refl (reflexive numbers)

antisymmetric : (numbers others : List ℕ) → are_at_most numbers others ≡ true → are_at_most others numbers ≡ true → numbers ≡ others
unfolding are_at_most
antisymmetric [] [] e f = refl
antisymmetric [] (m ∷ others) e f = absurd cc
antisymmetric (n ∷ numbers) [] e f = absurd cc
antisymmetric (n ∷ numbers) (m ∷ others) e f =
    elim (taken n m (are_at_most numbers others) e) [
      | inl lt ↦ elim (taken m n (are_at_most others numbers) f) [
        | inl gt ↦ absurd (omega arith)
        | inr is ↦ absurd (let back = is.0 in omega arith)
      ]
      | inr here ↦ elim (taken m n (are_at_most others numbers) f) [
        | inl gt ↦ absurd (let is = here.0 in omega arith)
        | inr there ↦ (let rest = antisymmetric numbers others here.1 there.1 in let is = here.0 in cc)
      ]
    ]

transitive : (low numbers high : List ℕ) → are_at_most low numbers ≡ true → are_at_most numbers high ≡ true → are_at_most low high ≡ true
unfolding are_at_most
transitive [] numbers high e f = refl
transitive (l ∷ low) [] high e f = absurd cc
transitive (l ∷ low) (n ∷ numbers) [] e f = absurd cc
transitive (l ∷ low) (n ∷ numbers) (h ∷ high) e f =
    elim (taken l n (are_at_most low numbers) e) [
      | inl lt ↦ elim (taken n h (are_at_most numbers high) f) [
        | inl more ↦ less l h (are_at_most low high) (omega arith)
        | inr is ↦ less l h (are_at_most low high) (let there = is.0 in omega arith)
      ]
      | inr here ↦ elim (taken n h (are_at_most numbers high) f) [
        | inl more ↦ less l h (are_at_most low high) (let is = here.0 in omega arith)
        | inr there ↦ same l h (are_at_most low high) (here.0 ∙ there.0) (transitive low numbers high here.1 there.1)
      ]
    ]

total : (numbers others : List ℕ) → length numbers ≡ length others → (are_at_most numbers others ≡ true) ⊎ (are_at_most others numbers ≡ true)
unfolding are_at_most
total [] others e = inl refl
total (n ∷ numbers) [] e = absurd (omega arith)
total (n ∷ numbers) (m ∷ others) e = by_tests (λ same. total numbers others same) (nat_lt n m) (nat_lt m n) refl refl
  where
    by_tests : (length numbers ≡ length others → (are_at_most numbers others ≡ true) ⊎ (are_at_most others numbers ≡ true)) → (one other : Bool) → nat_lt n m ≡ one → nat_lt m n ≡ other → ((nat_lt n m || (n == m && are_at_most numbers others)) ≡ true) ⊎ ((nat_lt m n || (m == n && are_at_most others numbers)) ≡ true)
    by_tests again true other is isnt = inl (grind (arith, nat_tests))
    by_tests again false true is isnt = inr (grind (arith, nat_tests))
    by_tests again false false is isnt =
        let one : n ≡ m = grind (arith, nat_tests) in
        let rest = again (omega arith) in
        ⊎_elim (λ e. inl (same n m (are_at_most numbers others) one e)) (λ e. inr (same m n (are_at_most others numbers) (sym one) e)) rest

-- ---- levels

same_numbers : (level other : LevelNumbers) → numbers_of level ≡ numbers_of other → level ≡ other
same_numbers level other e =
    let first : level.first ≡ other.first = cc in
    let second : level.second ≡ other.second = cc in
    let third : level.third ≡ other.third = cc in
    let fourth : level.fourth ≡ other.fourth = cc in
    λ i. record { first = first i; second = second i; third = third i; fourth = fourth i }

pub order_is_reflexive : OrderIsReflexive
unfolding at_most
order_is_reflexive level = reflexive (numbers_of level)

pub order_is_antisymmetric : OrderIsAntisymmetric
unfolding at_most
order_is_antisymmetric level other e f = same_numbers level other (antisymmetric (numbers_of level) (numbers_of other) e f)

pub order_is_transitive : OrderIsTransitive
unfolding at_most
order_is_transitive low level high e f = transitive (numbers_of low) (numbers_of level) (numbers_of high) e f

pub order_is_total : OrderIsTotal
unfolding at_most
order_is_total level other = total (numbers_of level) (numbers_of other) refl

pub numbers_rise : NumbersRise
unfolding at_most are_at_most
numbers_rise level other e =
    ⊎_elim (λ lt. omega arith) (λ is. let first = is.0 in omega arith)
    (taken level.first other.first (are_at_most (level.second ∷ level.third ∷ level.fourth ∷ []) (other.second ∷ other.third ∷ other.fourth ∷ [])) e)

-- the comparisons of the code
last_number : (n m : ℕ) → nat_le n m ≡ (nat_lt n m || (n == m && true))
last_number n m = by_tests (nat_lt n m) (n == m) refl refl
  where
    by_tests : (one other : Bool) → nat_lt n m ≡ one → (n == m) ≡ other → nat_le n m ≡ (one || (other && true))
    by_tests true other is isnt = grind (arith, nat_tests)
    by_tests false true is isnt = grind (arith, nat_tests)
    by_tests false false is isnt = grind (arith, nat_tests)

pub compared : (level other : LevelNumbers) → at_most level other ≡ (nat_lt level.first other.first || (level.first == other.first && (nat_lt level.second other.second || (level.second == other.second
    && (nat_lt level.third other.third || (level.third == other.third && nat_le level.fourth other.fourth))))))
unfolding at_most are_at_most
compared level other = rw (last_number level.fourth other.fourth) refl
