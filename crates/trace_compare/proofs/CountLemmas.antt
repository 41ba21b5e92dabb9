-- Counts of items since the last one of a greater rank, item by item.
use Rattle.std.proofs.Common.{◌≡◌, ◌∙◌, ℕ, zero, suc, ◌-◌, ◌+◌, ◌<◌, ◌≤◌, ◌==◌, nat_le, Bool, true, false, cond, if◌then◌else◌, List, [], ◌∷◌, ◌++◌, filter, get_or, length, reverse, take, add-one, refl, sym, ap, arith, append_assoc}
use Rattle.std.specs.List.{take_while}
use Rattle.std.proofs.Math.Seq.{take-suc}
use Rattle.std.proofs.lemmas.List.{reverse-append}
use Rattle.std.proofs.lemmas.List.Sums.{take_while-cons}
use Rattle.physical_stream.specs.declared.item.Item.{Item}
use Rattle.trace_compare.specs.Keeping.{counted}
use Rattle.trace_compare.specs.Places.{count_since, counts_down, rank_of}

-- one item more
pub count-more : (rank : ℕ) (before : List Item) (x : Item) → count_since rank (before ++ x ∷ []) ≡ counted rank x (count_since rank before)
count-more rank before x =
    ap (λ (l : List Item). length (filter own (take_while low l))) (reverse-append before (x ∷ [])) ∙ ap (λ (l : List Item). length (filter own l)) (take_while-cons low x (reverse before))
    ∙ by_tests (low x) (own x) refl
  where
    low : Item → Bool
    low item = nat_le (rank_of item) rank

    own : Item → Bool
    own item = rank_of item == rank

    by_tests : (least same : Bool) → own x ≡ same
        → length (filter own (cond least (x ∷ take_while low (reverse before)) [])) ≡ (if least then (if same then suc (length (filter own (take_while low (reverse before)))) else length (filter own (take_while low (reverse before)))) else 0)
    by_tests false same is = refl
    by_tests true true is = ap (λ (b : Bool). length (cond b (x ∷ filter own (take_while low (reverse before))) (filter own (take_while low (reverse before))))) is
    by_tests true false is = ap (λ (b : Bool). length (cond b (x ∷ filter own (take_while low (reverse before))) (filter own (take_while low (reverse before))))) is

-- one item more of a list
pub count-next : (rank : ℕ) (items : List Item) (n : ℕ) (x : Item) (count next : ℕ) → n < length items → x ≡ get_or items n x → count ≡ count_since rank (take n items) → next ≡ counted rank x count
    → next ≡ count_since rank (take (n + 1) items)
count-next rank items n x count next within is so_far one_more =
    one_more ∙ ap (counted rank x) so_far ∙ sym (count-more rank (take n items) x)
    ∙ ap (count_since rank) (ap (λ (y : Item). take n items ++ y ∷ []) is ∙ sym (take-suc items n x within) ∙ ap (λ (k : ℕ). take k items) (sym (add-one n)))

-- a count grows by one at most
pub few_counted : (rank : ℕ) (x : Item) (count n : ℕ) → count ≤ n → counted rank x count ≤ n + 1
few_counted rank x count n few = by_tests (nat_le (rank_of x) rank) (rank_of x == rank)
  where
    by_tests : (least same : Bool) → (if least then (if same then suc count else count) else 0) ≤ n + 1
    by_tests false same = omega arith
    by_tests true true = omega arith
    by_tests true false = omega arith

-- the counts from a rank that is not 0 on
pub counts-next : (rank : ℕ) (before : List Item) → 0 < rank → counts_down rank before ≡ count_since rank before ∷ counts_down (rank - 1) before
counts-next zero before some = absurd (omega (arith, some))
counts-next (suc rank) before some = ap (λ (k : ℕ). count_since (suc rank) before ∷ counts_down k before) (omega arith)

-- one count more
pub place-more : (place : List ℕ) (rank : ℕ) (before : List Item) (all : List ℕ) → 0 < rank → place ++ counts_down rank before ≡ all
    → (place ++ count_since rank before ∷ []) ++ counts_down (rank - 1) before ≡ all
place-more place rank before all some is =
    append_assoc place (count_since rank before ∷ []) (counts_down (rank - 1) before) ∙ ap (λ (l : List ℕ). place ++ l) (sym (counts-next rank before some)) ∙ is
