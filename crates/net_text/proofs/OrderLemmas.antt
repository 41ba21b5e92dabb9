-- Orders of components, and the numbers that are read of one.
use Rattle.std.proofs.Common.{◌≡◌, ◌∙◌, ℕ, zero, suc, ◌+◌, ◌<◌, ◌≤◌, ◌⊎◌, inl, inr, Bool, true, false, cond, ◌==◌, ◌||◌, ◌&&◌, nat_lt, List, [], ◌∷◌, ◌++◌, length, map, get_or, slice_set, Option, Some, None, refl, sym, ap, subst, arith}
use Rattle.std.specs.List.{All, list_all, count_by}
use Rattle.std.proofs.lemmas.List.{length-set, length-append, get_or-set_same, get_or-set_other, get_or_default}
use Rattle.std.proofs.Math.Seq.{get_or-append_seam}
use Rattle.std.proofs.lemmas.List.Elements.{All-push}
use Rattle.std.proofs.lemmas.List.Folds.{list_all-append}
use Rattle.std.proofs.lemmas.List.Sums.{sum_by-cons, sum_by-append, AllPass-from_list_all, list_all-from_AllPass}
use Rattle.std.proofs.lemmas.Bool.{eq-eqb, eqb-true, cases_eq}
use Rattle.std.proofs.lemmas.Bool.Decides.{nat_tests}
use Rattle.std.proofs.lemmas.Option.{cond_some}
use Rattle.tydi_base.specs.Decimal.{below, decimal_of, is_decimal, read_on}
use Rattle.net_text.specs.Orders.{IsOrder, stand_once, is_order, order_with, text_order, order_in}
use Rattle.net_text.specs.Ordering.{IsMarked, among}

-- ---- tests

pub and-left : (a b : Bool) → (a && b) ≡ true → a ≡ true
and-left true b is = refl
and-left false b is = is

pub and-right : (a b : Bool) → (a && b) ≡ true → b ≡ true
and-right true b is = is
and-right false b is = absurd (let e : false ≡ true = is in cc)

pub and-both : (a b : Bool) → a ≡ true → b ≡ true → (a && b) ≡ true
and-both true b first second = second
and-both false b first second = first

or-left : (a b : Bool) → (a || b) ≡ false → a ≡ false
or-left true b is = is
or-left false b is = refl

or-right : (a b : Bool) → (a || b) ≡ false → b ≡ false
or-right true b is = absurd (let e : true ≡ false = is in cc)
or-right false b is = is

pub not-true : (b : Bool) → (b ≡ true → ⊥) → b ≡ false
not-true true so = absurd (so refl)
not-true false so = refl

-- ---- numbers among others

pub among-more : (number one : ℕ) (done : List ℕ) → among number (done ++ one ∷ []) ≡ (among number done || (one == number || false))
among-more number one [] = refl
among-more number one (x ∷ done) = by_test (among-more number one done) (x == number)
  where
    by_test : among number (done ++ one ∷ []) ≡ (among number done || (one == number || false)) → (test : Bool) → (test || among number (done ++ one ∷ [])) ≡ (test || among number done || (one == number || false))
    by_test so true = refl
    by_test so false = so

pub count-none : (number : ℕ) (order : List ℕ) → among number order ≡ false → count_by (λ at. at == number) order ≡ 0
count-none number [] none = refl
count-none number (x ∷ order) none =
    let here : (x == number) ≡ false = or-left (x == number) (among number order) none in
    let rest = count-none number order (or-right (x == number) (among number order) none) in
    sum_by-cons (λ at. cond (at == number) 1 0) x order ∙ ap (λ (b : Bool). cond b 1 0 + count_by (λ at. at == number) order) here ∙ omega (arith, rest)

pub none-count : (number : ℕ) (order : List ℕ) → count_by (λ at. at == number) order ≡ 0 → among number order ≡ false
none-count number [] none = refl
none-count number (x ∷ order) none = by_test (x == number) refl (sym (sum_by-cons (λ at. cond (at == number) 1 0) x order) ∙ none) (none-count number order)
  where
    by_test : (test : Bool) → (x == number) ≡ test → cond test 1 0 + count_by (λ at. at == number) order ≡ 0 → (count_by (λ at. at == number) order ≡ 0 → among number order ≡ false) →
        (test || among number order) ≡ false
    by_test true is c so = absurd (omega (arith, c))
    by_test false is c so = so (omega (arith, c))

pub has-all : (count number : ℕ) (order : List ℕ) → IsOrder count order → number < count → among number order ≡ true
has-all count number order whole less = by_test (among number order) refl
  where
    by_test : (test : Bool) → among number order ≡ test → test ≡ true
    by_test true is = refl
    by_test false is = let c = whole.once number less in let n = count-none number order is in absurd (omega (arith, c, n))

-- ---- the test of orders

abbrev count_of : ℕ → List ℕ → ℕ
count_of number order = count_by (λ at. at == number) order

once-at : (count number : ℕ) (order : List ℕ) → stand_once count order ≡ true → number < count → count_of number order ≡ 1
once-at zero number order is less = absurd (omega (arith, less))
once-at (suc count) number order is less = by_place (once-at count number order (and-left (stand_once count order) (count_of count order == 1) is)) (cases_eq number count)
  where
    by_place : (number < count → count_of number order ≡ 1) → (number ≡ count) ⊎ (number ≡ count → ⊥) → count_of number order ≡ 1
    by_place below (inl same) = ap (λ n. count_of n order) same ∙ eqb-true (count_of count order) 1 (and-right (stand_once count order) (count_of count order == 1) is)
    by_place below (inr other) = below (omega (arith, less, other))

once-from : (count : ℕ) (order : List ℕ) → ((number : ℕ) → number < count → count_of number order ≡ 1) → stand_once count order ≡ true
once-from zero order all = refl
once-from (suc count) order all =
    and-both (stand_once count order) (count_of count order == 1) (once-from count order (λ number less. all number (omega (arith, less)))) (eq-eqb (count_of count order) 1 (all count (omega arith)))

pub order-told : (count : ℕ) (order : List ℕ) → is_order count order ≡ true → IsOrder count order
order-told count order is = record {
  once = λ number less. once-at count number order (and-right (list_all (λ number. nat_lt number count) order) (stand_once count order) is) less;
  within = λ k d less.
      let t = AllPass-from_list_all (λ number. nat_lt number count) order (and-left (list_all (λ number. nat_lt number count) order) (stand_once count order) is) k d less in
      grind (arith, nat_tests);
}

order-tells : (count : ℕ) (order : List ℕ) → IsOrder count order → is_order count order ≡ true
order-tells count order whole =
    and-both (list_all (λ number. nat_lt number count) order) (stand_once count order)
    (list_all-from_AllPass (λ number. nat_lt number count) order (λ k d less. let t = whole.within k d less in grind (arith, nat_tests)))
    (once-from count order whole.once)

-- ---- one number more

count-one : (number one : ℕ) (rest : List ℕ) → count_of number (one ∷ rest) ≡ cond (one == number) 1 0 + count_of number rest
count-one number one rest = sum_by-cons (λ at. cond (at == number) 1 0) one rest

count-more : (number : ℕ) (xs ys : List ℕ) → count_of number (xs ++ ys) ≡ count_of number xs + count_of number ys
count-more number xs ys = sum_by-append (λ at. cond (at == number) 1 0) xs ys

some-count : (number : ℕ) (order : List ℕ) → among number order ≡ true → 1 ≤ count_of number order
some-count number order is = by_count (count_of number order) refl
  where
    by_count : (n : ℕ) → count_of number order ≡ n → 1 ≤ n
    by_count zero none = absurd (let f : false ≡ true = sym (none-count number order none) ∙ is in cc)
    by_count (suc n) some = omega arith

-- the number is that of no component, or it stands before in the list, so the list is no order
pub cannot-stand : (count number : ℕ) (order rest : List ℕ) → (count ≤ number) ⊎ (among number order ≡ true) → is_order count (order ++ number ∷ rest) ≡ false
cannot-stand count number order rest why = not-true (is_order count (order ++ number ∷ rest)) (λ is. contradiction (order-told count (order ++ number ∷ rest) is) why)
  where
    contradiction : IsOrder count (order ++ number ∷ rest) → (count ≤ number) ⊎ (among number order ≡ true) → ⊥
    contradiction whole reason =
        let place : length order < length (order ++ number ∷ rest) = let long = length-append order (number ∷ rest) in omega (arith, long) in
        let less : number < count = subst (λ n. n < count) (get_or-append_seam order number rest 0) (whole.within (length order) 0 place) in
        by_reason less reason (whole.once number less)
      where
        by_reason : number < count → (count ≤ number) ⊎ (among number order ≡ true) → count_of number (order ++ number ∷ rest) ≡ 1 → ⊥
        by_reason less (inl past) one = omega (arith, less, past)
        by_reason less (inr there) one =
            let some = some-count number order there in
            let sum = count-more number order (number ∷ rest) in
            let first : count_of number (number ∷ rest) ≡ 1 + count_of number rest = count-one number number rest ∙ ap (λ (b : Bool). cond b 1 0 + count_of number rest) (eq-eqb number number refl) in
            omega (arith, one, some, sum, first)

pub marked-more : (count number : ℕ) (order : List ℕ) (seen : List Bool) → IsMarked count order seen → number < count → get_or seen number false ≡ false →
    IsMarked count (order ++ number ∷ []) (slice_set seen number true)
marked-more count number order seen m less free = record {
  long = length-set seen number true ∙ m.long;
  marks = λ k within. by_place k within (cases_eq k number);
  within = list_all-append (λ number. nat_lt number count) order (number ∷ []) ∙ and-both (list_all (λ number. nat_lt number count) order) (list_all (λ number. nat_lt number count) (number ∷ [])) m.within last;
  apart = λ k. by_count k (cases_eq k number);
}
  where
    last : list_all (λ number. nat_lt number count) (number ∷ []) ≡ true
    last = let t : nat_lt number count ≡ true = grind (arith, nat_tests) in rw t refl

    by_place : (k : ℕ) → k < count → (k ≡ number) ⊎ (k ≡ number → ⊥) → get_or (slice_set seen number true) k false ≡ among k (order ++ number ∷ [])
    by_place k within (inl same) =
        let long = m.long in
        let here : (number == k) ≡ true = eq-eqb number k (sym same) in
        ap (λ n. get_or (slice_set seen number true) n false) same ∙ get_or-set_same seen number true false (omega (arith, long, less))
        ∙ sym (among-more k number order ∙ ap (λ (b : Bool). among k order || (b || false)) here ∙ right (among k order))
      where
        right : (b : Bool) → (b || true) ≡ true
        right true = refl
        right false = refl
    by_place k within (inr other) =
        let away : (number == k) ≡ false = grind (arith, nat_tests) in
        get_or-set_other seen number k true false other ∙ m.marks k within
        ∙ sym (among-more k number order ∙ ap (λ (b : Bool). among k order || (b || false)) away ∙ right (among k order))
      where
        right : (b : Bool) → (b || false) ≡ b
        right true = refl
        right false = refl

    by_count : (k : ℕ) → (k ≡ number) ⊎ (k ≡ number → ⊥) → count_of k (order ++ number ∷ []) ≤ 1
    by_count k (inl same) =
        let none : count_of number order ≡ 0 = count-none number order (sym (m.marks number less) ∙ free) in
        let sum = count-more number order (number ∷ []) in
        let one : count_of number (number ∷ []) ≡ 1 + count_of number [] = count-one number number [] ∙ ap (λ (b : Bool). cond b 1 0 + count_of number []) (eq-eqb number number refl) in
        subst (λ n. count_of n (order ++ number ∷ []) ≤ 1) (sym same) (omega (arith, none, sum, one))
    by_count k (inr other) =
        let away : (number == k) ≡ false = grind (arith, nat_tests) in
        let sum = count-more k order (number ∷ []) in
        let one : count_of k (number ∷ []) ≡ 0 + count_of k [] = count-one k number [] ∙ ap (λ (b : Bool). cond b 1 0 + count_of k []) away in
        let few = m.apart k in
        omega (arith, sum, one, few)

-- all are marked exactly where the numbers are an order
pub all-marked : (count : ℕ) (order : List ℕ) (seen : List Bool) → IsMarked count order seen → list_all (λ mark. mark) seen ≡ is_order count order
all-marked count order seen m = by_test (list_all (λ mark. mark) seen) refl
  where
    each : list_all (λ mark. mark) seen ≡ true → (number : ℕ) → number < count → count_of number order ≡ 1
    each is number less =
        let long = m.long in
        let marked : get_or seen number false ≡ true = AllPass-from_list_all (λ mark. mark) seen is number false (omega (arith, long, less)) in
        let some = some-count number order (sym (m.marks number less) ∙ marked) in
        let few = m.apart number in
        omega (arith, some, few)

    none : is_order count order ≡ true → list_all (λ mark. mark) seen ≡ true
    none is = list_all-from_AllPass (λ mark. mark) seen (λ k d less.
        let long = m.long in
        let within : k < count = omega (arith, long, less) in
        get_or_default seen k d false less ∙ m.marks k within ∙ has-all count k order (order-told count order is) within)

    by_test : (test : Bool) → list_all (λ mark. mark) seen ≡ test → test ≡ is_order count order
    by_test true is = sym (and-both (list_all (λ number. nat_lt number count) order) (stand_once count order) m.within (once-from count order (each is)))
    by_test false is = sym (not-true (is_order count order) (λ so. let f : false ≡ true = sym is ∙ none so in cc))

-- ---- the words of an order

below-some : (limit n found : ℕ) → below limit (Some n) ≡ Some found → found ≡ n
below-some limit n found is = sym (cond_some (nat_lt n limit) n found is).1

-- the number that a word spells, where it is small enough
pub wide-is : (limit : ℕ) (word : List ℕ) (wide : ℕ) → is_decimal word ≡ true → below limit (decimal_of word) ≡ Some wide → wide ≡ read_on 0 word
wide-is limit word wide decimal is =
    below-some limit (read_on 0 word) wide (subst (λ (o : Option ℕ). below limit o ≡ Some wide) (ap (λ (b : Bool). cond b (Some (read_on 0 word)) None) decimal) is)

-- a number that was added
pub added : (count number wide : ℕ) (old new : List ℕ) (seen : List Bool) (here : Bool) → wide ≡ number → new ≡ old ++ wide ∷ [] → wide < length seen → here ≡ get_or seen wide here → here ≡ false →
    IsMarked count old seen → (new ≡ old ++ number ∷ []) × IsMarked count new (slice_set seen wide true)
added count number wide old new seen here same pushed less is free m =
    let long = m.long in
    let open_place : get_or seen wide false ≡ false = get_or_default seen wide false here less ∙ sym is ∙ free in
    (pushed ∙ ap (λ n. old ++ n ∷ []) same, subst (λ l. IsMarked count l (slice_set seen wide true)) (sym pushed) (marked-more count wide old seen m (omega (arith, long, less)) open_place))

-- the number of this word can't stand, so the numbers are no order
pub stops : (count : ℕ) (words rest : List (List ℕ)) (word : List ℕ) (order : List ℕ) → map (read_on 0) words ≡ order ++ read_on 0 word ∷ map (read_on 0) rest →
    (count ≤ read_on 0 word) ⊎ (among (read_on 0 word) order ≡ true) → None ≡ order_with count (map (read_on 0) words)
stops count words rest word order is why =
    ap (λ (b : Bool). cond b (Some (map (read_on 0) words)) None) (sym (ap (is_order count) is ∙ cannot-stand count (read_on 0 word) order (map (read_on 0) rest) why))

pub first-decimal : (word : List ℕ) (rest : List (List ℕ)) → list_all is_decimal (word ∷ rest) ≡ true → (is_decimal word ≡ true) × (list_all is_decimal rest ≡ true)
first-decimal word rest is = (and-left (is_decimal word) (list_all is_decimal rest) is, and-right (is_decimal word) (list_all is_decimal rest) is)

-- ---- the order of the text

count-below : (number count : ℕ) → (number < count → count_by (λ at. at == number) (text_order count) ≡ 1) × (count ≤ number → count_by (λ at. at == number) (text_order count) ≡ 0)
count-below number zero = (λ less. absurd (omega (arith, less)), λ past. refl)
count-below number (suc count) = (within (count-below number count) (cases_eq count number), outside (count-below number count).1)
  where
    sum : count_by (λ at. at == number) (text_order count ++ count ∷ []) ≡ count_by (λ at. at == number) (text_order count) + (cond (count == number) 1 0 + 0)
    sum = sum_by-append (λ at. cond (at == number) 1 0) (text_order count) (count ∷ []) ∙ ap (λ n. count_by (λ at. at == number) (text_order count) + n) (sum_by-cons (λ at. cond (at == number) 1 0) count [])

    outside : (count ≤ number → count_by (λ at. at == number) (text_order count) ≡ 0) → suc count ≤ number → count_by (λ at. at == number) (text_order count ++ count ∷ []) ≡ 0
    outside none past =
        let other : (count == number) ≡ false = grind (arith, nat_tests) in
        let zero_so_far = none (omega (arith, past)) in
        sum ∙ ap (λ (b : Bool). count_by (λ at. at == number) (text_order count) + (cond b 1 0 + 0)) other ∙ omega (arith, zero_so_far)

    within : (number < count → count_by (λ at. at == number) (text_order count) ≡ 1) × (count ≤ number → count_by (λ at. at == number) (text_order count) ≡ 0) → (count ≡ number) ⊎ (count ≡ number → ⊥) →
        number < suc count → count_by (λ at. at == number) (text_order count ++ count ∷ []) ≡ 1
    within both (inl same) less =
        let none = both.1 (omega (arith, same)) in
        sum ∙ ap (λ (b : Bool). count_by (λ at. at == number) (text_order count) + (cond b 1 0 + 0)) (eq-eqb count number same) ∙ omega (arith, none)
    within both (inr apart) less =
        let other : (count == number) ≡ false = grind (arith, nat_tests) in
        let one = both.0 (omega (arith, less, apart)) in
        sum ∙ ap (λ (b : Bool). count_by (λ at. at == number) (text_order count) + (cond b 1 0 + 0)) other ∙ omega (arith, one)

all-below : (limit count : ℕ) → count ≤ limit → All (λ number. number < limit) (text_order count)
all-below limit zero few = λ k d less. absurd (omega (arith, less))
all-below limit (suc count) few = All-push (λ number. number < limit) (text_order count) count (all-below limit count (omega (arith, few))) (omega (arith, few))

pub text_order-is : (count : ℕ) → IsOrder count (text_order count)
text_order-is count = record { once = λ number less. (count-below number count).0 less; within = all-below count count (omega arith) }

-- the order of each cycle, also past the orders that are given
pub order_in-is : (count : ℕ) (orders : List (List ℕ)) (cycle : ℕ) → All (IsOrder count) orders → IsOrder count (order_in count orders cycle)
order_in-is count [] cycle all = text_order-is count
order_in-is count (order ∷ orders) zero all = all 0 order (omega arith)
order_in-is count (order ∷ orders) (suc cycle) all = order_in-is count orders cycle (λ k d less. all (suc k) d (omega (arith, less)))
