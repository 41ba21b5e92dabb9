-- Capacities, and how many components streams with stages have.
use Rattle.std.proofs.Common.{◌≡◌, ◌∙◌, ℕ, ◌<◌, ◌≤◌, Bool, true, false, cond, ◌&&◌, nat_lt, nat_le, List, [], ◌∷◌, ◌++◌, map, Option, Some, None, refl, sym, ap, append_assoc, arith}
use Rattle.std.specs.List.{list_all}
use Rattle.std.proofs.lemmas.Bool.Decides.{nat_tests}
use Rattle.std.proofs.lemmas.List.{append-nil}
use Rattle.std.proofs.lemmas.List.Folds.{list_all-append}
use Rattle.tydi_base.specs.Decimal.{below, decimal_of, is_decimal, read_on}
use Rattle.net_text.specs.Ordering.{AreCapacities}
use Rattle.net_text.specs.Text.{capacities_with, is_capacity}
use Rattle.net_text.proofs.OrderLemmas.{and-left, and-right, and-both}

-- a number as large as this is no capacity
pub large-not : (limit : ℕ) (word : List ℕ) → 64 < limit → is_decimal word ≡ true → below limit (decimal_of word) ≡ None → is_capacity (read_on 0 word) ≡ false
large-not limit word large decimal none =
    by_test (nat_lt (read_on 0 word) limit) refl (ap (λ (b : Bool). below limit (cond b (Some (read_on 0 word)) None)) (sym decimal) ∙ none)
  where
    by_test : (fits : Bool) → nat_lt (read_on 0 word) limit ≡ fits → ◌≡◌ {A = Option ℕ} (cond (nat_lt (read_on 0 word) limit) (Some (read_on 0 word)) None) None → is_capacity (read_on 0 word) ≡ false
    by_test true is same = absurd (let e : ◌≡◌ {A = Option ℕ} (Some (read_on 0 word)) None = ap (λ (b : Bool). cond b (Some (read_on 0 word)) None) (sym is) ∙ same in cc)
    by_test false is same = out (read_on 0 word) (grind (arith, nat_tests))
      where
        out : (n : ℕ) → limit ≤ n → is_capacity n ≡ false
        out n past =
            let high : nat_le n 64 ≡ false = grind (arith, nat_tests) in
            let low : nat_le 1 n ≡ true = grind (arith, nat_tests) in
            rw (low, high) refl

pub is-capacity : (n : ℕ) → 1 ≤ n → n ≤ 64 → is_capacity n ≡ true
is-capacity n some few =
    let low : nat_le 1 n ≡ true = grind (arith, nat_tests) in
    let high : nat_le n 64 ≡ true = grind (arith, nat_tests) in
    rw (low, high) refl

pub zero-not : (n : ℕ) → n < 1 → is_capacity n ≡ false
zero-not n none = let low : nat_le 1 n ≡ false = grind (arith, nat_tests) in rw low refl

pub past-not : (n : ℕ) → 64 < n → is_capacity n ≡ false
past-not n past =
    let low : nat_le 1 n ≡ true = grind (arith, nat_tests) in
    let high : nat_le n 64 ≡ false = grind (arith, nat_tests) in
    rw (low, high) refl

-- ---- words of capacities

pub first-decimal : (word : List ℕ) (rest : List (List ℕ)) → list_all is_decimal (word ∷ rest) ≡ true → (is_decimal word ≡ true) × (list_all is_decimal rest ≡ true)
first-decimal word rest is = (and-left (is_decimal word) (list_all is_decimal rest) is, and-right (is_decimal word) (list_all is_decimal rest) is)

not-all : (b c : Bool) → b ≡ false → (b && c) ≡ false
not-all true c is = absurd (let e : true ≡ false = is in cc)
not-all false c is = refl

and-true : (b c d : Bool) → d ≡ (b && c) → b ≡ true → c ≡ false → d ≡ false
and-true true c d is one other = is ∙ other
and-true false c d is one other = is

-- one of the numbers is no capacity
pub capacities-stop : (words rest : List (List ℕ)) (word : List ℕ) (found : List ℕ) → map (read_on 0) words ≡ found ++ read_on 0 word ∷ map (read_on 0) rest → list_all is_capacity found ≡ true → is_capacity (read_on 0 word) ≡ false
    → None ≡ capacities_with (map (read_on 0) words)
capacities-stop words rest word found is within out =
    let all : list_all is_capacity (map (read_on 0) words) ≡ false =
    and-true (list_all is_capacity found) (list_all is_capacity (read_on 0 word ∷ map (read_on 0) rest)) (list_all is_capacity (map (read_on 0) words))
    (ap (list_all is_capacity) is ∙ list_all-append is_capacity found (read_on 0 word ∷ map (read_on 0) rest)) within (not-all (is_capacity (read_on 0 word)) (list_all is_capacity (map (read_on 0) rest)) out) in
    ap (λ (b : Bool). cond b (Some (map (read_on 0) words)) None) (sym all)

-- one capacity more
pub capacities-more : (words rest : List (List ℕ)) (word found new : List ℕ) (capacity : ℕ) → AreCapacities words (word ∷ rest) found → capacity ≡ read_on 0 word → is_capacity (read_on 0 word) ≡ true → new ≡ found ++ capacity ∷ []
    → AreCapacities words rest new
capacities-more words rest word found new capacity are same within is = record {
  numbers = are.numbers ∙ sym (append_assoc found (read_on 0 word ∷ []) (map (read_on 0) rest)) ∙ ap (λ (l : List ℕ). l ++ map (read_on 0) rest) (sym now);
  decimals = (first-decimal word rest are.decimals).1;
  within = ap (list_all is_capacity) now ∙ list_all-append is_capacity found (read_on 0 word ∷ [])
      ∙ and-both (list_all is_capacity found) (list_all is_capacity (read_on 0 word ∷ [])) are.within (and-both (is_capacity (read_on 0 word)) true within refl);
}
  where
    now : new ≡ found ++ read_on 0 word ∷ []
    now = is ∙ ap (λ n. found ++ n ∷ []) same

-- all words are read
pub capacities-all : (words : List (List ℕ)) (found : List ℕ) → AreCapacities words [] found → Some found ≡ capacities_with (map (read_on 0) words)
capacities-all words found are =
    let all : map (read_on 0) words ≡ found = are.numbers ∙ append-nil found in
    let test : list_all is_capacity (map (read_on 0) words) ≡ true = ap (list_all is_capacity) all ∙ are.within in
    ap (λ (l : List ℕ). Some l) (sym all) ∙ ap (λ (b : Bool). cond b (Some (map (read_on 0) words)) None) (sym test)
