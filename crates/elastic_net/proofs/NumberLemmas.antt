-- The numbers of transfers that fall, and how they move on.
use Rattle.std.proofs.Common.{◌≡◌, ◌∙◌, ℕ, zero, suc, ◌+◌, ◌-◌, ◌<◌, ◌≤◌, ◌==◌, ◌⊎◌, inl, inr, Bool, true, false, nat_lt, nat_le, if◌then◌else◌, List, [], ◌∷◌, length, slice_get, replicate, Option, None, Some, refl, sym, ap, subst, arith}
use Rattle.std.proofs.lemmas.Bool.{cases_lt}
use Rattle.std.proofs.lemmas.Bool.Decides.{nat_tests}
use Rattle.physical_stream.specs.declared.transfer.Transfer.{Transfer}
use Rattle.elastic_net.specs.Orders.{how_many}
use Rattle.elastic_net.specs.States.{beyond, first_of, moved_on}
use Rattle.elastic_net.specs.Standing.{AreFalling}

-- ---- tests

pub same_yes : (a b : ℕ) → a ≡ b → (a == b) ≡ true
same_yes a b is = grind (arith, nat_tests)

pub same_no : (a b : ℕ) → (a ≡ b → ⊥) → (a == b) ≡ false
same_no a b apart = grind (arith, nat_tests, apart)

pub lt_yes : (a b : ℕ) → a < b → nat_lt a b ≡ true
lt_yes a b is = grind (arith, nat_tests)

pub lt_true : (a b : ℕ) → nat_lt a b ≡ true → a < b
lt_true a b is = grind (arith, nat_tests)

pub lt_no : (a b : ℕ) → b ≤ a → nat_lt a b ≡ false
lt_no a b is = grind (arith, nat_tests)

pub le_true : (a b : ℕ) → nat_le a b ≡ true → a ≤ b
le_true a b is = grind (arith, nat_tests)

pub le_yes : (a b : ℕ) → a ≤ b → nat_le a b ≡ true
le_yes a b is = grind (arith, nat_tests)

pub le_no : (a b : ℕ) → b < a → nat_le a b ≡ false
le_no a b is = grind (arith, nat_tests)

-- below, the same, above
pub data Compared (a b : ℕ) : Type 0 where
  below : a < b → Compared a b
  same : a ≡ b → Compared a b
  above : b < a → Compared a b

pub compared : (a b : ℕ) → Compared a b
compared a b = by_lt (cases_lt a b)
  where
    by_le : (b ≤ a) → (b < a) ⊎ (a ≤ b) → Compared a b
    by_le le (inl less) = above less
    by_le le (inr more) = same (omega arith)

    by_lt : (a < b) ⊎ (b ≤ a) → Compared a b
    by_lt (inl less) = below less
    by_lt (inr le) = by_le le (cases_lt b a)

-- ---- counts

pub beyond-more : (i n : ℕ) (numbers : List ℕ) → i < n → beyond i (n ∷ numbers) ≡ suc (beyond i numbers)
beyond-more i n numbers less = ap (λ (b : Bool). if b then suc (beyond i numbers) else beyond i numbers) (lt_yes i n less)

pub beyond-same : (i n : ℕ) (numbers : List ℕ) → n ≤ i → beyond i (n ∷ numbers) ≡ beyond i numbers
beyond-same i n numbers le = ap (λ (b : Bool). if b then suc (beyond i numbers) else beyond i numbers) (lt_no i n le)

pub many-more : (i n : ℕ) (numbers : List ℕ) → n ≡ i → how_many i (n ∷ numbers) ≡ suc (how_many i numbers)
many-more i n numbers is = ap (λ (b : Bool). if b then suc (how_many i numbers) else how_many i numbers) (same_yes n i is)

pub many-same : (i n : ℕ) (numbers : List ℕ) → (n ≡ i → ⊥) → how_many i (n ∷ numbers) ≡ how_many i numbers
many-same i n numbers apart = ap (λ (b : Bool). if b then suc (how_many i numbers) else how_many i numbers) (same_no n i apart)

-- those behind a component are those in the place behind it and those behind that
pub beyond-split : (i : ℕ) (numbers : List ℕ) → beyond i numbers ≡ how_many (suc i) numbers + beyond (suc i) numbers
beyond-split i [] = omega arith
beyond-split i (n ∷ numbers) = by_order (beyond-split i numbers) (compared n (suc i))
  where
    by_order : beyond i numbers ≡ how_many (suc i) numbers + beyond (suc i) numbers → Compared n (suc i) → beyond i (n ∷ numbers) ≡ how_many (suc i) (n ∷ numbers) + beyond (suc i) (n ∷ numbers)
    by_order rest (below less) = omega (arith, rest, beyond-same i n numbers (omega arith), many-same (suc i) n numbers (λ is. omega arith), beyond-same (suc i) n numbers (omega arith))
    by_order rest (same is) = omega (arith, rest, beyond-more i n numbers (omega arith), many-more (suc i) n numbers is, beyond-same (suc i) n numbers (omega arith))
    by_order rest (above more) = omega (arith, rest, beyond-more i n numbers (omega arith), many-same (suc i) n numbers (λ is. omega arith), beyond-more (suc i) n numbers (omega arith))

pub beyond-within : (i : ℕ) (numbers : List ℕ) → beyond i numbers ≤ length numbers
beyond-within i [] = omega arith
beyond-within i (n ∷ numbers) = by_lt (beyond-within i numbers) (cases_lt i n)
  where
    by_lt : beyond i numbers ≤ length numbers → (i < n) ⊎ (n ≤ i) → beyond i (n ∷ numbers) ≤ suc (length numbers)
    by_lt rest (inl less) = omega (arith, rest, beyond-more i n numbers less)
    by_lt rest (inr le) = omega (arith, rest, beyond-same i n numbers le)

-- a later component has moved on no more
pub beyond-less : (i more : ℕ) (numbers : List ℕ) → beyond (more + i) numbers ≤ beyond i numbers
beyond-less i zero numbers = let e : 0 + i ≡ i = omega arith in omega (arith, ap (λ (n : ℕ). beyond n numbers) e)
beyond-less i (suc more) numbers =
    let e : suc more + i ≡ suc (more + i) = omega arith in
    omega (arith, ap (λ (n : ℕ). beyond n numbers) e, beyond-split (more + i) numbers, beyond-less i more numbers)

pub beyond-upto : (i j : ℕ) (numbers : List ℕ) → i ≤ j → beyond j numbers ≤ beyond i numbers
beyond-upto i j numbers le = let e : (j - i) + i ≡ j = omega arith in subst (λ (n : ℕ). beyond n numbers ≤ beyond i numbers) e (beyond-less i (j - i) numbers)

-- how many transfers have at least this number
abbrev pub reached : ℕ → List ℕ → ℕ
reached zero numbers = length numbers
reached (suc i) numbers = beyond i numbers

pub beyond-reached : (i : ℕ) (numbers : List ℕ) → beyond i numbers ≤ reached i numbers
beyond-reached zero numbers = beyond-within 0 numbers
beyond-reached (suc i) numbers = omega (arith, beyond-split i numbers)

reached-more : (i n : ℕ) (numbers : List ℕ) → i ≤ n → reached i (n ∷ numbers) ≡ suc (reached i numbers)
reached-more zero n numbers le = refl
reached-more (suc i) n numbers le = beyond-more i n numbers (omega arith)

reached-same : (i n : ℕ) (numbers : List ℕ) → n < i → reached i (n ∷ numbers) ≡ reached i numbers
reached-same zero n numbers less = absurd (omega arith)
reached-same (suc i) n numbers less = beyond-same i n numbers (omega arith)

-- ---- numbers that fall

pub falling-up : (top more : ℕ) (numbers : List ℕ) → top ≤ more → AreFalling top numbers → AreFalling more numbers
falling-up top more [] le f = f
falling-up top more (n ∷ numbers) le f = (omega (arith, f.0), f.1)

pub beyond-none : (top i : ℕ) (numbers : List ℕ) → AreFalling top numbers → top ≤ i → beyond i numbers ≡ 0
beyond-none top i [] f le = refl
beyond-none top i (n ∷ numbers) f le = beyond-same i n numbers (omega (arith, f.0)) ∙ beyond-none n i numbers f.1 (omega (arith, f.0))

reached-none : (top i : ℕ) (numbers : List ℕ) → AreFalling top numbers → top < i → reached i numbers ≡ 0
reached-none top zero numbers f less = absurd (omega arith)
reached-none top (suc i) numbers f less = beyond-none top i numbers f (omega arith)

pub falling-zeros : (top many : ℕ) → AreFalling top (replicate many 0)
falling-zeros top zero = record {}
falling-zeros top (suc many) = (omega arith, falling-zeros 0 many)

pub beyond-zeros : (i many : ℕ) → beyond i (replicate many 0) ≡ 0
beyond-zeros i zero = refl
beyond-zeros i (suc many) = beyond-same i 0 (replicate many 0) (omega arith) ∙ beyond-zeros i many

-- ---- the first transfer of a number

-- the transfer behind those that the component has moved on, where some have its number
abbrev pub next_at : (ts : List Transfer) → (before upto : ℕ) → Option Transfer
next_at ts before upto = if nat_lt before upto then slice_get ts before else None

next_at-suc : (t : Transfer) (ts : List Transfer) (before upto : ℕ) → next_at (t ∷ ts) (suc before) (suc upto) ≡ next_at ts before upto
next_at-suc t ts before upto = by_lt (cases_lt before upto)
  where
    by_lt : (before < upto) ⊎ (upto ≤ before) → next_at (t ∷ ts) (suc before) (suc upto) ≡ next_at ts before upto
    by_lt (inl less) =
        ap (λ (b : Bool). if b then slice_get (t ∷ ts) (suc before) else None) (lt_yes (suc before) (suc upto) (omega arith))
        ∙ sym (ap (λ (b : Bool). if b then slice_get ts before else None) (lt_yes before upto less))
    by_lt (inr le) =
        ap (λ (b : Bool). if b then slice_get (t ∷ ts) (suc before) else None) (lt_no (suc before) (suc upto) (omega arith))
        ∙ sym (ap (λ (b : Bool). if b then slice_get ts before else None) (lt_no before upto le))

pub first_of-is : (i top : ℕ) (ts : List Transfer) (numbers : List ℕ) → AreFalling top numbers → length numbers ≡ length ts → first_of i ts numbers ≡ next_at ts (beyond i numbers) (reached i numbers)
first_of-is i top [] numbers f many = by_test (nat_lt (beyond i numbers) (reached i numbers))
  where
    by_test : (b : Bool) → None ≡ (if b then slice_get {X = Transfer} [] (beyond i numbers) else None)
    by_test true = refl
    by_test false = refl
first_of-is i top (t ∷ ts) [] f many = cc
first_of-is i top (t ∷ ts) (n ∷ numbers) f many = by_order (first_of-is i n ts numbers f.1 (omega (arith, many))) (compared n i)
  where
    step : (n ≡ i → ⊥) → first_of i (t ∷ ts) (n ∷ numbers) ≡ first_of i ts numbers
    step apart = ap (λ (b : Bool). if b then Some t else first_of i ts numbers) (same_no n i apart)

    to : (before upto : ℕ) → beyond i (n ∷ numbers) ≡ before → reached i (n ∷ numbers) ≡ upto → next_at (t ∷ ts) before upto ≡ next_at (t ∷ ts) (beyond i (n ∷ numbers)) (reached i (n ∷ numbers))
    to before upto a b = ap (λ (x : ℕ). next_at (t ∷ ts) x upto) (sym a) ∙ ap (next_at (t ∷ ts) (beyond i (n ∷ numbers))) (sym b)

    by_order : first_of i ts numbers ≡ next_at ts (beyond i numbers) (reached i numbers) → Compared n i → first_of i (t ∷ ts) (n ∷ numbers) ≡ next_at (t ∷ ts) (beyond i (n ∷ numbers)) (reached i (n ∷ numbers))
    by_order inner (below less) =
        let none : beyond i numbers ≡ 0 = beyond-none n i numbers f.1 (omega arith) in
        let few : reached i numbers ≡ 0 = reached-none n i numbers f.1 less in
        step (λ is. omega arith) ∙ inner ∙ ap (λ (x : ℕ). next_at ts x (reached i numbers)) none ∙ ap (next_at ts 0) few ∙ to 0 0 (beyond-same i n numbers (omega arith) ∙ none) (reached-same i n numbers less ∙ few)
    by_order inner (same is) =
        let none : beyond i numbers ≡ 0 = beyond-none n i numbers f.1 (omega arith) in
        ap (λ (b : Bool). if b then Some t else first_of i ts numbers) (same_yes n i is)
        ∙ sym (ap (λ (b : Bool). if b then slice_get (t ∷ ts) 0 else None) (lt_yes 0 (suc (reached i numbers)) (omega arith)))
        ∙ to 0 (suc (reached i numbers)) (beyond-same i n numbers (omega arith) ∙ none) (reached-more i n numbers (omega arith))
    by_order inner (above more) =
        step (λ is. omega arith) ∙ inner ∙ sym (next_at-suc t ts (beyond i numbers) (reached i numbers))
        ∙ to (suc (beyond i numbers)) (suc (reached i numbers)) (beyond-more i n numbers more) (reached-more i n numbers (omega arith))

-- ---- one transfer moves on

pub length-moved_on : (i : ℕ) (numbers : List ℕ) → length (moved_on i numbers) ≡ length numbers
length-moved_on i [] = refl
length-moved_on i (n ∷ numbers) = by_test (length-moved_on i numbers) (n == i)
  where
    by_test : length (moved_on i numbers) ≡ length numbers → (b : Bool) → length (if b then suc n ∷ numbers else n ∷ moved_on i numbers) ≡ suc (length numbers)
    by_test rest true = refl
    by_test rest false = ap suc rest

moved-here : (i n : ℕ) (numbers : List ℕ) → n ≡ i → moved_on i (n ∷ numbers) ≡ suc n ∷ numbers
moved-here i n numbers is = ap (λ (b : Bool). if b then suc n ∷ numbers else n ∷ moved_on i numbers) (same_yes n i is)

moved-later : (i n : ℕ) (numbers : List ℕ) → (n ≡ i → ⊥) → moved_on i (n ∷ numbers) ≡ n ∷ moved_on i numbers
moved-later i n numbers apart = ap (λ (b : Bool). if b then suc n ∷ numbers else n ∷ moved_on i numbers) (same_no n i apart)

moved-none : (top i : ℕ) (numbers : List ℕ) → AreFalling top numbers → top < i → moved_on i numbers ≡ numbers
moved-none top i [] f less = refl
moved-none top i (n ∷ numbers) f less = moved-later i n numbers (λ is. omega (arith, f.0)) ∙ ap (λ (l : List ℕ). n ∷ l) (moved-none n i numbers f.1 (omega (arith, f.0)))

pub falling-moved : (top i : ℕ) (numbers : List ℕ) → i < top → AreFalling top numbers → AreFalling top (moved_on i numbers)
falling-moved top i [] less f = f
falling-moved top i (n ∷ numbers) less f = by_order (λ more. falling-moved n i numbers more f.1) (compared n i)
  where
    by_order : (i < n → AreFalling n (moved_on i numbers)) → Compared n i → AreFalling top (moved_on i (n ∷ numbers))
    by_order deeper (below smaller) = subst (AreFalling top) (sym (moved-later i n numbers (λ is. omega arith) ∙ ap (λ (l : List ℕ). n ∷ l) (moved-none n i numbers f.1 smaller))) f
    by_order deeper (same is) = subst (AreFalling top) (sym (moved-here i n numbers is)) (omega arith, falling-up n (suc n) numbers (omega arith) f.1)
    by_order deeper (above more) = subst (AreFalling top) (sym (moved-later i n numbers (λ is. omega arith))) (f.0, deeper more)

-- the component has moved on one more, where some have its number
pub beyond-moved : (top i : ℕ) (numbers : List ℕ) → AreFalling top numbers → beyond i numbers < reached i numbers → beyond i (moved_on i numbers) ≡ suc (beyond i numbers)
beyond-moved top i [] f some = absurd (by_zero i some)
  where
    by_zero : (j : ℕ) → 0 < reached j [] → ⊥
    by_zero zero less = omega arith
    by_zero (suc j) less = omega arith
beyond-moved top i (n ∷ numbers) f some = by_order (λ less. beyond-moved n i numbers f.1 less) (compared n i)
  where
    by_order : (beyond i numbers < reached i numbers → beyond i (moved_on i numbers) ≡ suc (beyond i numbers)) → Compared n i → beyond i (moved_on i (n ∷ numbers)) ≡ suc (beyond i (n ∷ numbers))
    by_order deeper (below less) = absurd (omega (arith, some, reached-same i n numbers less, reached-none n i numbers f.1 less))
    by_order deeper (same is) =
        ap (beyond i) (moved-here i n numbers is) ∙ beyond-more i (suc n) numbers (omega arith) ∙ ap suc (sym (beyond-same i n numbers (omega arith)))
    by_order deeper (above more) =
        let less : beyond i numbers < reached i numbers = omega (arith, some, beyond-more i n numbers more, reached-more i n numbers (omega arith)) in
        ap (beyond i) (moved-later i n numbers (λ is. omega arith)) ∙ beyond-more i n (moved_on i numbers) more ∙ ap suc (deeper less) ∙ ap suc (sym (beyond-more i n numbers more))

-- and each other component as many as before
pub beyond-other : (i j : ℕ) (numbers : List ℕ) → (j ≡ i → ⊥) → beyond j (moved_on i numbers) ≡ beyond j numbers
beyond-other i j [] apart = refl
beyond-other i j (n ∷ numbers) apart = by_same (beyond-other i j numbers apart) (compared n i)
  where
    kept : beyond j (moved_on i numbers) ≡ beyond j numbers → (n ≡ i → ⊥) → (j < n) ⊎ (n ≤ j) → beyond j (moved_on i (n ∷ numbers)) ≡ beyond j (n ∷ numbers)
    kept rest off (inl less) = ap (beyond j) (moved-later i n numbers off) ∙ beyond-more j n (moved_on i numbers) less ∙ ap suc rest ∙ sym (beyond-more j n numbers less)
    kept rest off (inr le) = ap (beyond j) (moved-later i n numbers off) ∙ beyond-same j n (moved_on i numbers) le ∙ rest ∙ sym (beyond-same j n numbers le)

    here : n ≡ i → Compared j i → beyond j (moved_on i (n ∷ numbers)) ≡ beyond j (n ∷ numbers)
    here is (below less) = ap (beyond j) (moved-here i n numbers is) ∙ beyond-more j (suc n) numbers (omega arith) ∙ sym (beyond-more j n numbers (omega arith))
    here is (same at) = absurd (apart at)
    here is (above more) = ap (beyond j) (moved-here i n numbers is) ∙ beyond-same j (suc n) numbers (omega arith) ∙ sym (beyond-same j n numbers (omega arith))

    by_same : beyond j (moved_on i numbers) ≡ beyond j numbers → Compared n i → beyond j (moved_on i (n ∷ numbers)) ≡ beyond j (n ∷ numbers)
    by_same rest (below less) = kept rest (λ is. omega arith) (cases_lt j n)
    by_same rest (same is) = here is (compared j i)
    by_same rest (above more) = kept rest (λ is. omega arith) (cases_lt j n)
