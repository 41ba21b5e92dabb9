-- Names that stand twice, by the order of their numbers.
use Rattle.std.proofs.Common.{◌≡◌, ℕ, zero, suc, ◌+◌, ◌<◌, Bool, true, false, ◌||◌, List, [], ◌∷◌, map, length, get_or, refl, sym, ap, ◌∙◌, arith, true≢false, IsPermutation}
use denote.Ref.{Bor}
use denote.Param.Members.{Mut}
use Rattle.std.specs.Prelude.{MatchBool}
use Rattle.std.specs.Cmp.{IsStrictWeakOrder, IsTotalOrder}
use Rattle.std.specs.Fn.{Called, ComparesAs}
use Rattle.std.specs.Char.{to_ascii_lowercase}
use Rattle.std.specs.List.{list_any, IsDistinct}
use Rattle.std.specs.List.Sorted.{IsSortedBy}
use Rattle.std.specs.Ordering.{eq_by_cmp, is_eq, is_lt, ordering_reverse}
use Rattle.std.specs.declared.cmp.Ordering.{Ordering}
use Rattle.std.specs.declared.cmp.Ordering.TheVariants as order
use Rattle.std.proofs.lemmas.Cmp.{nat_list_cmp_total, on_total}
use Rattle.std.proofs.lemmas.Fn.{always_returns_same}
use Rattle.std.proofs.lemmas.List.Sorted.{IsPermutation-sym, ranks_by}
use Rattle.std.proofs.lemmas.Map.Keys.{IsDistinct-IsPermutation, IsDistinct-from_apart, IsDistinct-from_sorted, apart_from_distinct, sorted_from_all_adjacent}
use Rattle.std.proofs.lemmas.Map.Text.{is_eq-slice_cmp}
use Rattle.logical_types.specs.Names.{has_name_twice, is_same_name}
use Rattle.logical_types.specs.NameOrder.{AreNeighboursApart, HasSameNeighbours, number_cmp}

-- ---- pairs of names

-- any two names differ
abbrev ArePairsApart : List (List ℕ) → Type 0
ArePairsApart names = (i j : ℕ) → i < j → j < length names → is_same_name (get_or names i []) (get_or names j []) ≡ false

neither : (a b : Bool) → (a || b) ≡ false → (a ≡ false) × (b ≡ false)
neither true b none = absurd (true≢false none)
neither false b none = (refl, none)

none_any : (test : List ℕ → Bool) (names : List (List ℕ)) (at : ℕ) → list_any test names ≡ false → at < length names → test (get_or names at []) ≡ false
none_any test [] at none within = absurd (omega arith)
none_any test (name ∷ names) zero none within = (neither (test name) (list_any test names) none).0
none_any test (name ∷ names) (suc at) none within = none_any test names at (neither (test name) (list_any test names) none).1 (omega arith)

any_none : (test : List ℕ → Bool) (names : List (List ℕ)) → ((at : ℕ) → at < length names → test (get_or names at []) ≡ false) → list_any test names ≡ false
any_none test [] none = refl
any_none test (name ∷ names) none = ap (λ b. b || list_any test names) (none 0 (omega arith)) ∙ any_none test names (λ at within. none (suc at) (omega arith))

pairs_apart : (names : List (List ℕ)) → has_name_twice names ≡ false → ArePairsApart names
pairs_apart [] none i j below within = absurd (omega arith)
pairs_apart (name ∷ names) none i zero below within = absurd (omega arith)
pairs_apart (name ∷ names) none zero (suc j) below within =
    none_any (is_same_name name) names j (neither (list_any (is_same_name name) names) (has_name_twice names) none).0 (omega arith)
pairs_apart (name ∷ names) none (suc i) (suc j) below within =
    pairs_apart names (neither (list_any (is_same_name name) names) (has_name_twice names) none).1 i j (omega arith) (omega arith)

none_twice : (names : List (List ℕ)) → ArePairsApart names → has_name_twice names ≡ false
none_twice [] apart = refl
none_twice (name ∷ names) apart =
    ap (λ b. b || has_name_twice names) (any_none (is_same_name name) names (λ at within. apart 0 (suc at) (omega arith) (omega arith)))
    ∙ none_twice names (λ i j below within. apart (suc i) (suc j) (omega arith) (omega arith))

-- ---- numbers of names

total : (names : List (List ℕ)) → IsTotalOrder (number_cmp names)
total names = on_total (λ (number : ℕ). map to_ascii_lowercase (get_or names number [])) nat_list_cmp_total

flipped : (one other : Ordering) → one ≡ ordering_reverse other → is_eq one ≡ is_eq other
flipped one order.Less is = ap is_eq is
flipped one order.Equal is = ap is_eq is
flipped one order.Greater is = ap is_eq is

flips : (names : List (List ℕ)) (one other : ℕ) → eq_by_cmp (number_cmp names) one other ≡ eq_by_cmp (number_cmp names) other one
flips names one other = flipped (number_cmp names one other) (number_cmp names other one) ((total names).antisymm one other)

same_name : (names : List (List ℕ)) (one other : ℕ) → is_eq (number_cmp names one other) ≡ is_same_name (get_or names one []) (get_or names other [])
same_name names one other = is_eq-slice_cmp (map to_ascii_lowercase (get_or names one [])) (map to_ascii_lowercase (get_or names other []))

-- each number is its place
abbrev AreInPlace : List ℕ → Type 0
AreInPlace numbers = (k : ℕ) → k < length numbers → get_or numbers k 0 ≡ k

default : (numbers : List ℕ) (k d : ℕ) → k < length numbers → get_or numbers k d ≡ get_or numbers k 0
default [] k d within = absurd (omega arith)
default (number ∷ numbers) zero d within = refl
default (number ∷ numbers) (suc k) d within = default numbers k d (omega arith)

distinct_in_place : (names : List (List ℕ)) (numbers : List ℕ) → length numbers ≡ length names → AreInPlace numbers
    → has_name_twice names ≡ false → IsDistinct (eq_by_cmp (number_cmp names)) numbers
distinct_in_place names numbers long in_place none =
    IsDistinct-from_apart (eq_by_cmp (number_cmp names)) numbers
    (λ i j d below within. rw (default numbers i d (omega arith) ∙ in_place i (omega arith), default numbers j d within ∙ in_place j within)
    (same_name names i j ∙ pairs_apart names none i j below (omega arith)))

apart_in_place : (names : List (List ℕ)) (numbers : List ℕ) → length numbers ≡ length names → AreInPlace numbers
    → IsDistinct (eq_by_cmp (number_cmp names)) numbers → has_name_twice names ≡ false
apart_in_place names numbers long in_place distinct =
    none_twice names
    (λ i j below within. sym (same_name names i j)
    ∙ rw (in_place i (omega arith), in_place j (omega arith)) at
    (apart_from_distinct (eq_by_cmp (number_cmp names)) numbers i j 0 distinct below (omega arith)))

-- ---- numbers in order

only_less : (one other : Ordering) → one ≡ ordering_reverse other → is_lt other ≡ false → is_eq one ≡ false → one ≡ order.Less
only_less one order.Less is up apart = absurd (true≢false up)
only_less one order.Equal is up apart = absurd (true≢false (sym (ap is_eq is) ∙ apart))
only_less one order.Greater is up apart = is

distinct_in_order : (names : List (List ℕ)) (numbers : List ℕ) → IsSortedBy (λ one other. is_lt (number_cmp names one other)) numbers
    → AreNeighboursApart names numbers → IsDistinct (eq_by_cmp (number_cmp names)) numbers
distinct_in_order names numbers sorted apart =
    IsDistinct-from_sorted (number_cmp names) numbers (sorted_from_all_adjacent (total names) numbers 0
    (λ k within. only_less (number_cmp names (get_or numbers k 0) (get_or numbers (k + 1) 0)) (number_cmp names (get_or numbers (k + 1) 0) (get_or numbers k 0))
    ((total names).antisymm (get_or numbers k 0) (get_or numbers (k + 1) 0)) (sorted k 0 (omega arith) within) (apart k within)))

found_by : (names : List (List ℕ)) (old new : List ℕ) (twice : Bool) → has_name_twice names ≡ twice → length old ≡ length names → AreInPlace old
    → IsPermutation old new → HasSameNeighbours names new → true ≡ twice
found_by names old new true is long in_place moved found = refl
found_by names old new false is long in_place moved found =
    let distinct = IsDistinct-IsPermutation (eq_by_cmp (number_cmp names)) (flips names) old new moved (distinct_in_place names old long in_place is)
    in absurd (true≢false (sym found.2 ∙ apart_from_distinct (eq_by_cmp (number_cmp names)) new found.0 (found.0 + 1) 0 distinct (omega arith) found.1))

-- whether numbers in order that stand together have one name tells whether a name stands twice
pub told_in_order : (names : List (List ℕ)) (old new : List ℕ) (result : Bool) → length old ≡ length names → AreInPlace old
    → IsPermutation old new
    → IsSortedBy (λ one other. is_lt (number_cmp names one other)) new
    → MatchBool result (HasSameNeighbours names new) (AreNeighboursApart names new)
    → result ≡ has_name_twice names
told_in_order names old new true long in_place moved sorted found = found_by names old new (has_name_twice names) refl long in_place moved found
told_in_order names old new false long in_place moved sorted apart =
    sym (apart_in_place names old long in_place
    (IsDistinct-IsPermutation (eq_by_cmp (number_cmp names)) (flips names) new old (IsPermutation-sym old new moved)
    (distinct_in_order names new sorted apart)))

-- what the sort ensures, where each call of its closure compares two numbers
pub sorted_by : {F : Type 0} {g : Mut F (Bor ℕ × (Bor ℕ × Unit {0})) Ordering} {f : F} (names : List (List ℕ)) (numbers : List ℕ)
    → ((lt : ℕ → ℕ → Bool) → IsStrictWeakOrder lt → ComparesAs g lt f → IsSortedBy lt numbers)
    → ((a : Bor ℕ × (Bor ℕ × Unit {0})) (r : Ordering) (f' : F) → Called g f a r f' → (r ≡ number_cmp names a.0.now a.1.0.now) × (f' ≡ f))
    → IsSortedBy (λ one other. is_lt (number_cmp names one other)) numbers
sorted_by {g = g} {f = f} names numbers sorted compares =
    sorted (λ one other. is_lt (number_cmp names one other))
    (ranks_by nat_list_cmp_total (λ (number : ℕ). map to_ascii_lowercase (get_or names number [])))
    (always_returns_same g (λ a r. is_lt r ≡ is_lt (number_cmp names a.0.now a.1.0.now)) f
    (λ a r f' called. (ap is_lt (compares a r f' called).0, (compares a r f' called).1)))
