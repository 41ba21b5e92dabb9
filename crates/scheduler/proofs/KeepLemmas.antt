-- The items that a wish takes keep the rules, and so do the items that are left.
use Rattle.std.proofs.Common.{◌≡◌, ◌∙◌, ◌⊎◌, inl, inr, ℕ, zero, suc, ◌+◌, ◌-◌, ◌*◌, ◌<◌, ◌≤◌, Bool, true, false, ◌||◌, ◌&&◌, ◌==◌, nat_le, nat_lt, if◌then◌else◌, List, [], ◌∷◌, ◌++◌, length, take, drop, map, min, Option, Some, refl, sym, ap, subst, append_assoc, arith}
use Rattle.std.proofs.Math.Nat.{suc-mul}
use Rattle.std.proofs.lemmas.Bool.{cases_lt}
use Rattle.std.proofs.lemmas.Bool.Decides.{nat_tests}
use Rattle.std.proofs.lemmas.List.{length-drop, take-append-drop, append_cancel_right}
use Rattle.tydi_base.specs.Level.{number_of}
use Rattle.physical_stream.specs.Params.{Parameters}
use Rattle.physical_stream.specs.Items.{parts_below}
use Rattle.physical_stream.specs.Shape.{tail_over, is_whole, closes_empty, has_misplaced}
use Rattle.physical_stream.proofs.ShapeLemmas.{tail_over-append, has_misplaced-append}
use Rattle.physical_stream.specs.declared.item.Item.{Item}
use Rattle.physical_stream.specs.declared.item.Item.TheVariants.{Elem, Close}
use Rattle.physical_stream.specs.declared.item.Tail.{Tail}
use Rattle.physical_stream.specs.declared.item.Tail.TheVariants as tails
use Rattle.scheduler.specs.Lanes.{no_lane, highest_active}
use Rattle.scheduler.specs.Planned.{Load, run_from, run_of, behind_run, elements_of, is_allowed, place_in, laned_load, packed_load, count_of, leaves, filled_load, is_empty_wish, mask_of, load_of}
use Rattle.plan_text.specs.declared.plan.Wish.{Wish}
use Rattle.scheduler.specs.Laws.{AreItems}
use Rattle.scheduler.proofs.AllowLemmas.{all-allowed, count-is, first-allowed, place-all}
use Rattle.scheduler.proofs.PartLemmas.{eq-false, eq-true}
use Rattle.scheduler.proofs.CarryLemmas.{acts, carried, highest-ge, highest-below, some-from}
use Rattle.scheduler.proofs.LoadLemmas.{AreItems-drop, IsTaken, taken_of, acts-at, count-fits, run-splits}
use Rattle.scheduler.proofs.PlanLemmas.{run-zero}
use Rattle.scheduler.proofs.ObeyLemmas.{KeepsRules, highest-none}

-- items that begin with a Close begin with one of an empty sequence
abbrev pub StartsEmpty : Option Tail → List Item → Type 0
StartsEmpty tail [] = Unit {0}
StartsEmpty tail (Elem word ∷ more) = Unit {0}
StartsEmpty tail (Close dim ∷ more) = closes_empty tail dim ≡ true

-- the items go on after this tail: nested, to the end of a packet, in whole transfers where those are asked for
pub record Goes (p : Parameters) (tail : Option Tail) (items : List Item) : Type 0 where
  pub fit : AreItems p items
  pub nested : has_misplaced tail items ≡ false
  pub whole : is_whole p.dims (tail_over tail items) ≡ true
  pub even : p.dims ≡ 0 → number_of p.level ≤ 4 → (m : ℕ) × (length items ≡ m * p.lanes)
  pub ready : number_of p.level ≤ 3 → StartsEmpty tail items

-- ---- runs

ready-from : (e : ℕ) (items : List Item) → StartsEmpty (tail_over (Some (tails.Close e)) (map Close (run_from (suc e) items))) (behind_run (suc e) items)
ready-from e [] = tt
ready-from e (Elem word ∷ more) = tt
ready-from e (Close dim ∷ more) = by_test (ready-from dim more) (nat_le (suc e) dim) refl
  where
    by_test : StartsEmpty (tail_over (Some (tails.Close dim)) (map Close (run_from (suc dim) more))) (behind_run (suc dim) more) → (test : Bool) → nat_le (suc e) dim ≡ test →
        StartsEmpty (tail_over (Some (tails.Close e)) (map Close (if test then dim ∷ run_from (suc dim) more else []))) (if test then behind_run (suc dim) more else Close dim ∷ more)
    by_test earlier true is = earlier
    by_test earlier false is = grind (arith, nat_tests)

run-close : (dim : ℕ) (more : List Item) → run_of (Close dim ∷ more) ≡ dim ∷ run_from (suc dim) more
run-close dim more = let all : nat_le 0 dim ≡ true = grind (arith, nat_tests) in rw all refl

ready-run : (tail : Option Tail) (items : List Item) → StartsEmpty (tail_over tail (map Close (run_of items))) (behind_run 0 items)
ready-run tail [] = tt
ready-run tail (Elem word ∷ more) = tt
ready-run tail (Close dim ∷ more) = rw (run-close dim more, run-zero dim more) (ready-from dim more)

-- ---- elements

-- behind the elements there is nothing, or a Close
rest-cases : (items : List Item) → (drop (elements_of items) items ≡ []) ⊎ ((c : ℕ) × ((more : List Item) × (drop (elements_of items) items ≡ Close c ∷ more)))
rest-cases [] = inl refl
rest-cases (Elem word ∷ more) = rest-cases more
rest-cases (Close dim ∷ more) = inr (dim, (more, refl))

ends-element : (tail : Option Tail) (item : Item) (items : List Item) → drop (elements_of (item ∷ items)) (item ∷ items) ≡ [] → tail_over tail (item ∷ items) ≡ Some tails.Elem
ends-element tail (Elem word) [] is = refl
ends-element tail (Elem word) (i ∷ more) is = ends-element (Some tails.Elem) i more is
ends-element tail (Close dim) items is = cc

none-left : (items : List Item) → drop (elements_of items) items ≡ [] → length items ≡ elements_of items
none-left [] is = refl
none-left (Elem word ∷ more) is = ap suc (none-left more is)
none-left (Close dim ∷ more) is = cc

-- without dimensions there are elements alone
all-elements : (p : Parameters) (items : List Item) → p.dims ≡ 0 → AreItems p items → elements_of items ≡ length items
all-elements p [] none fit = refl
all-elements p (Elem word ∷ more) none fit = ap suc (all-elements p more none fit.1)
all-elements p (Close dim ∷ more) none fit = let less = fit.0 in absurd (omega (arith, none, less))

no-run : (p : Parameters) (items : List Item) → p.dims ≡ 0 → AreItems p items → behind_run 0 items ≡ items
no-run p [] none fit = refl
no-run p (Elem word ∷ more) none fit = refl
no-run p (Close dim ∷ more) none fit = let less = fit.0 in absurd (omega (arith, none, less))

-- ---- where the Closes are left

both-true : (a b : Bool) → (a && b) ≡ true → (a ≡ true) × (b ≡ true)
both-true true true is = (refl, refl)
both-true true false is = cc
both-true false b is = cc

leaves-deep : (p : Parameters) (wish : Wish) (k : ℕ) → leaves p wish k ≡ true → 0 < p.dims
leaves-deep p wish k is =
    let inner = both-true (wish.late && nat_lt 0 k && nat_lt 0 p.dims) _ is in
    let deep : nat_lt 0 p.dims ≡ true = (both-true (wish.late && nat_lt 0 k) (nat_lt 0 p.dims) inner.0).1 in
    deep-by p.dims deep
  where
    deep-by : (n : ℕ) → nat_lt 0 n ≡ true → 0 < n
    deep-by n e = grind (arith, nat_tests)

leaves-level : (p : Parameters) (wish : Wish) (k : ℕ) → leaves p wish k ≡ true → (5 ≤ number_of p.level) ⊎ ((number_of p.level ≡ 4) × (k ≡ p.lanes))
leaves-level p wish k is = by_or (nat_le 5 (number_of p.level)) refl ((both-true (wish.late && nat_lt 0 k && nat_lt 0 p.dims) _ is).1)
  where
    by_or : (five : Bool) → nat_le 5 (number_of p.level) ≡ five → (five || ((number_of p.level == 4) && (k == p.lanes))) ≡ true → (5 ≤ number_of p.level) ⊎ ((number_of p.level ≡ 4) × (k ≡ p.lanes))
    by_or true e more = inl (grind (arith, nat_tests))
    by_or false e more = let both = both-true (number_of p.level == 4) (k == p.lanes) more in let one = both.0 in let two = both.1 in inr (grind (arith, nat_tests), grind (arith, nat_tests))

-- ---- each form of a load

pub record Keeps (p : Parameters) (tail : Option Tail) (load : Load) : Type 0 where
  pub rules : KeepsRules p tail load.lanes
  pub goes : Goes p (tail_over tail (parts_below (λ i. carried (load.lanes i)) p.lanes)) load.rest

module _ (p : Parameters) (some : 1 ≤ p.lanes) (tail : Option Tail) (items : List Item) (goes : Goes p tail items) where
  -- the properties of each form
  module _ (load : Load) (taken : IsTaken p items load) where
    abbrev parts : List Item
    parts = parts_below (λ i. carried (load.lanes i)) p.lanes

    either : has_misplaced tail (parts_below (λ i. carried (load.lanes i)) p.lanes) || has_misplaced (tail_over tail (parts_below (λ i. carried (load.lanes i)) p.lanes)) load.rest ≡ false
    either = sym (has_misplaced-append tail (parts_below (λ i. carried (load.lanes i)) p.lanes) load.rest) ∙ ap (has_misplaced tail) taken.splits ∙ goes.nested

    nested-front : has_misplaced tail (parts_below (λ i. carried (load.lanes i)) p.lanes) ≡ false
    nested-front = let e = either in grind (arith, nat_tests)

    nested-rest : has_misplaced (tail_over tail (parts_below (λ i. carried (load.lanes i)) p.lanes)) load.rest ≡ false
    nested-rest = let e = either in grind (arith, nat_tests)

    whole-rest : is_whole p.dims (tail_over (tail_over tail (parts_below (λ i. carried (load.lanes i)) p.lanes)) load.rest) ≡ true
    whole-rest = ap (is_whole p.dims) (sym (tail_over-append tail (parts_below (λ i. carried (load.lanes i)) p.lanes) load.rest) ∙ ap (tail_over tail) taken.splits) ∙ goes.whole

    goes-on : (p.dims ≡ 0 → number_of p.level ≤ 4 → (m : ℕ) × (length load.rest ≡ m * p.lanes)) → (number_of p.level ≤ 3 → StartsEmpty (tail_over tail (parts_below (λ i. carried (load.lanes i)) p.lanes)) load.rest) →
        Goes p (tail_over tail (parts_below (λ i. carried (load.lanes i)) p.lanes)) load.rest
    goes-on even ready = record { fit = taken.left; nested = nested-rest; whole = whole-rest; even = even; ready = ready }

    -- at greater levels no rule asks for more
    keeps-high : 7 < number_of p.level → Keeps p tail load
    keeps-high high = record {
      rules = record {
        last = λ level. absurd (omega (arith, level, high));
        start = λ level. absurd (omega (arith, level, high));
        ends = λ level. absurd (omega (arith, level, high));
        empties = λ level. absurd (omega (arith, level, high));
        nested = nested-front;
      };
      goes = goes-on (λ none level. absurd (omega (arith, level, high))) (λ level. absurd (omega (arith, level, high)));
    }

  -- no lane carries anything
  keeps-nothing : (wish : Wish) → is_empty_wish p wish ≡ true → IsTaken p items (record { lanes = λ lane. no_lane; rest = items }) → Keeps p tail (record { lanes = λ lane. no_lane; rest = items })
  keeps-nothing wish is taken =
      let four : 4 ≤ number_of p.level = grind (arith, nat_tests) in
      record {
        rules = record {
          last = λ level i less. refl;
          start = λ level i less sure. cc;
          ends = λ level. inl (highest-none (λ lane. no_lane) p.lanes (p.lanes - 1) (λ i less. refl));
          empties = λ level. absurd (omega (arith, level, four));
          nested = nested-front (record { lanes = λ lane. no_lane; rest = items }) taken;
        };
        goes = goes-on (record { lanes = λ lane. no_lane; rest = items }) taken (λ none level. absurd (deep none level)) (λ level. absurd (omega (arith, level, four)));
      }
    where
      deep : p.dims ≡ 0 → number_of p.level ≤ 4 → ⊥
      deep none level = grind (arith, nat_tests)

  module _ (mask : ℕ) (wish : Wish) where
    abbrev k : ℕ
    k = count_of p (is_allowed p mask) items

    abbrev late : Load
    late = packed_load p (is_allowed p mask) (count_of p (is_allowed p mask) items) [] items (drop (count_of p (is_allowed p mask) items) items)

    abbrev full : Load
    full = packed_load p (is_allowed p mask) (count_of p (is_allowed p mask) items) (run_of (drop (count_of p (is_allowed p mask) items) items)) items (behind_run 0 (drop (count_of p (is_allowed p mask) items) items))

    fits : count_of p (is_allowed p mask) items ≤ elements_of items × (count_of p (is_allowed p mask) items ≤ place_in (is_allowed p mask) p.lanes)
    fits = count-fits (elements_of items) (place_in (is_allowed p mask) p.lanes)

    module _ (closes : List ℕ) (rest : List Item) where
      abbrev packed : Load
      packed = packed_load p (is_allowed p mask) (count_of p (is_allowed p mask) items) closes items rest

      acts-is : (i : ℕ) → acts (packed_load p (is_allowed p mask) (count_of p (is_allowed p mask) items) closes items rest).lanes i ≡ (is_allowed p mask i && nat_lt (place_in (is_allowed p mask) i) (count_of p (is_allowed p mask) items))
      acts-is i = acts-at p (is_allowed p mask) (count_of p (is_allowed p mask) items) items fits.0 i

      last-alone : (i : ℕ) → i + 1 < p.lanes → ((packed_load p (is_allowed p mask) (count_of p (is_allowed p mask) items) closes items rest).lanes i).closes ≡ []
      last-alone i less = let other : (i + 1 == p.lanes) ≡ false = eq-false (i + 1) p.lanes (λ same. omega (arith, less, same)) in rw other refl

      in-last : ((packed_load p (is_allowed p mask) (count_of p (is_allowed p mask) items) closes items rest).lanes (p.lanes - 1)).closes ≡ closes
      in-last = let same : (p.lanes - 1 + 1 == p.lanes) ≡ true = eq-true (p.lanes - 1 + 1) p.lanes (omega (arith, some)) in rw same refl

      from-first : number_of p.level ≤ 5 → (i : ℕ) → acts (packed_load p (is_allowed p mask) (count_of p (is_allowed p mask) items) closes items rest).lanes i ≡ true → acts (packed_load p (is_allowed p mask) (count_of p (is_allowed p mask) items) closes items rest).lanes 0 ≡ true
      from-first level i sure =
          let both : (is_allowed p mask i && nat_lt (place_in (is_allowed p mask) i) (count_of p (is_allowed p mask) items)) ≡ true = sym (acts-is i) ∙ sure in
          let allowed : is_allowed p mask i ≡ true = grind (arith, nat_tests) in
          let first = first-allowed p mask i level allowed in
          let some_taken : 0 < count_of p (is_allowed p mask) items = grind (arith, nat_tests) in
          let less : nat_lt 0 (count_of p (is_allowed p mask) items) ≡ true = grind (arith, nat_tests) in
          acts-is 0 ∙ rw (first, less) refl

    -- at the levels where all lanes are allowed
    module _ (level : number_of p.level ≤ 4) where
      place : (n : ℕ) → place_in (is_allowed p mask) n ≡ n
      place n = place-all (is_allowed p mask) (all-allowed p mask level) n

      count : count_of p (is_allowed p mask) items ≡ min (elements_of items) p.lanes
      count = count-is (elements_of items) (place_in (is_allowed p mask) p.lanes) ∙ ap (min (elements_of items)) (place p.lanes)

      acts-low : (closes : List ℕ) (rest : List Item) (i : ℕ) → acts (packed closes rest).lanes i ≡ nat_lt i (count_of p (is_allowed p mask) items)
      acts-low closes rest i = acts-is closes rest i ∙ rw (all-allowed p mask level i, place i) refl

      -- all lanes are filled, or none is
      ends-full : (closes : List ℕ) (rest : List Item) → (count_of p (is_allowed p mask) items ≡ p.lanes) ⊎ (count_of p (is_allowed p mask) items ≡ 0) → highest_active (packed closes rest).lanes p.lanes (p.lanes - 1) ≡ p.lanes - 1
      ends-full closes rest (inl all) =
          let less : nat_lt (p.lanes - 1) (count_of p (is_allowed p mask) items) ≡ true = let l : p.lanes - 1 < count_of p (is_allowed p mask) items = omega (arith, all, some) in grind (arith, nat_tests) in
          let top : acts (packed closes rest).lanes (p.lanes - 1) ≡ true = acts-low closes rest (p.lanes - 1) ∙ less in
          let within : p.lanes - 1 < p.lanes = omega (arith, some) in
          let ge = highest-ge (packed closes rest).lanes p.lanes (p.lanes - 1) (p.lanes - 1) within top in
          let below = highest-below (packed closes rest).lanes p.lanes (p.lanes - 1) (some-from (packed closes rest).lanes p.lanes (p.lanes - 1) within top) in
          omega (arith, ge, below)
      ends-full closes rest (inr none) =
          highest-none (packed closes rest).lanes p.lanes (p.lanes - 1) (λ i less. acts-low closes rest i ∙ rw none (let no : nat_lt i 0 ≡ false = grind (arith, nat_tests) in no))

      -- else a Close follows what is taken
      part-cases : (item : Item) (more : List Item) → items ≡ item ∷ more →
          ((count_of p (is_allowed p mask) items ≡ p.lanes) ⊎ (count_of p (is_allowed p mask) items ≡ 0)) ⊎ ((c : ℕ) × ((others : List Item) × (drop (count_of p (is_allowed p mask) items) items ≡ Close c ∷ others)))
      part-cases item more is = by_many (cases_lt (elements_of items) p.lanes)
        where
          by_rest : elements_of items < p.lanes → count_of p (is_allowed p mask) items ≡ elements_of items → (drop (elements_of items) items ≡ []) ⊎ ((c : ℕ) × ((others : List Item) × (drop (elements_of items) items ≡ Close c ∷ others))) →
              ((count_of p (is_allowed p mask) items ≡ p.lanes) ⊎ (count_of p (is_allowed p mask) items ≡ 0)) ⊎ ((c : ℕ) × ((others : List Item) × (drop (count_of p (is_allowed p mask) items) items ≡ Close c ∷ others)))
          by_rest few same (inr e) = inr (e.0, (e.1.0, ap (λ (n : ℕ). drop n items) same ∙ e.1.1))
          by_rest few same (inl none) =
              let at : drop (elements_of (item ∷ more)) (item ∷ more) ≡ [] = subst (λ (l : List Item). drop (elements_of l) l ≡ []) is none in
              let last : tail_over tail items ≡ Some tails.Elem = ap (tail_over tail) is ∙ ends-element tail item more at in
              let flat_test : (p.dims == 0) ≡ true = sym (ap (is_whole p.dims) last) ∙ goes.whole in
              let flat : p.dims ≡ 0 = grind (arith, nat_tests) in
              let even = goes.even flat level in
              let long = none-left items none in
              by_number even.0 even.1 long
            where
              by_number : (m : ℕ) → length items ≡ m * p.lanes → length items ≡ elements_of items →
                  ((count_of p (is_allowed p mask) items ≡ p.lanes) ⊎ (count_of p (is_allowed p mask) items ≡ 0)) ⊎ ((c : ℕ) × ((others : List Item) × (drop (count_of p (is_allowed p mask) items) items ≡ Close c ∷ others)))
              by_number zero is_m long = inl (inr (omega (arith, is_m, long, same)))
              by_number (suc m) is_m long = absurd (omega (arith, is_m, long, few, suc-mul m p.lanes))

          by_many : (elements_of items < p.lanes) ⊎ (p.lanes ≤ elements_of items) →
              ((count_of p (is_allowed p mask) items ≡ p.lanes) ⊎ (count_of p (is_allowed p mask) items ≡ 0)) ⊎ ((c : ℕ) × ((others : List Item) × (drop (count_of p (is_allowed p mask) items) items ≡ Close c ∷ others)))
          by_many (inl few) = by_rest few (let c = count in omega (arith, c, few)) (rest-cases items)
          by_many (inr many) = inl (inl (let c = count in omega (arith, c, many)))

    keeps-late : leaves p wish (count_of p (is_allowed p mask) items) ≡ true → IsTaken p items late → Keeps p tail late
    keeps-late is taken = record {
      rules = record {
        last = λ level. last-alone [] (drop (count_of p (is_allowed p mask) items) items);
        start = λ level i less. from-first [] (drop (count_of p (is_allowed p mask) items) items) level i;
        ends = λ level. inl (ends-full level [] (drop (count_of p (is_allowed p mask) items) items) (inl (all level)));
        empties = λ level. absurd (high level);
        nested = nested-front late taken;
      };
      goes = goes-on late taken (λ none level. absurd (deep none)) (λ level. absurd (high level));
    }
      where
        all : number_of p.level ≤ 4 → count_of p (is_allowed p mask) items ≡ p.lanes
        all level = by_level (leaves-level p wish (count_of p (is_allowed p mask) items) is)
          where
            by_level : (5 ≤ number_of p.level) ⊎ ((number_of p.level ≡ 4) × (count_of p (is_allowed p mask) items ≡ p.lanes)) → count_of p (is_allowed p mask) items ≡ p.lanes
            by_level (inl more) = absurd (omega (arith, more, level))
            by_level (inr e) = e.1

        high : number_of p.level ≤ 3 → ⊥
        high level = by_level (leaves-level p wish (count_of p (is_allowed p mask) items) is)
          where
            by_level : (5 ≤ number_of p.level) ⊎ ((number_of p.level ≡ 4) × (count_of p (is_allowed p mask) items ≡ p.lanes)) → ⊥
            by_level (inl more) = omega (arith, more, level)
            by_level (inr e) = let four = e.0 in omega (arith, four, level)

        deep : p.dims ≡ 0 → ⊥
        deep none = let some_dim = leaves-deep p wish (count_of p (is_allowed p mask) items) is in omega (arith, some_dim, none)

    keeps-full : (item : Item) (more : List Item) → items ≡ item ∷ more → IsTaken p items full → Keeps p tail full
    keeps-full item more is taken = record {
      rules = record {
        last = λ level. last-alone (run_of (drop (count_of p (is_allowed p mask) items) items)) (behind_run 0 (drop (count_of p (is_allowed p mask) items) items));
        start = λ level i less. from-first (run_of (drop (count_of p (is_allowed p mask) items) items)) (behind_run 0 (drop (count_of p (is_allowed p mask) items) items)) level i;
        ends = λ level. by_part level (part-cases level item more is);
        empties = λ level none. by_first level none item more is;
        nested = nested-front full taken;
      };
      goes = goes-on full taken even (λ level. ready);
    }
      where
        rest : List Item
        rest = drop (count_of p (is_allowed p mask) items) items

        parts-are : parts_below (λ i. carried (full.lanes i)) p.lanes ≡ take (count_of p (is_allowed p mask) items) items ++ map Close (run_of (drop (count_of p (is_allowed p mask) items) items))
        parts-are =
            append_cancel_right (parts_below (λ i. carried (full.lanes i)) p.lanes) (take (count_of p (is_allowed p mask) items) items ++ map Close (run_of (drop (count_of p (is_allowed p mask) items) items))) (behind_run 0 (drop (count_of p (is_allowed p mask) items) items))
            (taken.splits ∙ sym (take-append-drop (count_of p (is_allowed p mask) items) items) ∙ ap (λ (l : List Item). take (count_of p (is_allowed p mask) items) items ++ l) (sym (run-splits 0 (drop (count_of p (is_allowed p mask) items) items)))
            ∙ sym (append_assoc (take (count_of p (is_allowed p mask) items) items) (map Close (run_of (drop (count_of p (is_allowed p mask) items) items))) (behind_run 0 (drop (count_of p (is_allowed p mask) items) items))))

        by_part : number_of p.level ≤ 4 → ((count_of p (is_allowed p mask) items ≡ p.lanes) ⊎ (count_of p (is_allowed p mask) items ≡ 0)) ⊎ ((c : ℕ) × ((others : List Item) × (drop (count_of p (is_allowed p mask) items) items ≡ Close c ∷ others))) →
            (highest_active full.lanes p.lanes (p.lanes - 1) ≡ p.lanes - 1) ⊎ ((c : ℕ) × ((ds : List ℕ) × ((full.lanes (p.lanes - 1)).closes ≡ c ∷ ds)))
        by_part level (inl all) = inl (ends-full level (run_of (drop (count_of p (is_allowed p mask) items) items)) (behind_run 0 (drop (count_of p (is_allowed p mask) items) items)) all)
        by_part level (inr e) =
            inr (e.0, (run_from (suc e.0) e.1.0, in-last (run_of (drop (count_of p (is_allowed p mask) items) items)) (behind_run 0 (drop (count_of p (is_allowed p mask) items) items)) ∙ ap run_of e.1.1 ∙ run-close e.0 e.1.0))

        ready : StartsEmpty (tail_over tail (parts_below (λ i. carried (full.lanes i)) p.lanes)) (behind_run 0 (drop (count_of p (is_allowed p mask) items) items))
        ready =
            subst (λ (t : Option Tail). StartsEmpty t (behind_run 0 (drop (count_of p (is_allowed p mask) items) items)))
            (sym (ap (tail_over tail) parts-are ∙ tail_over-append tail (take (count_of p (is_allowed p mask) items) items) (map Close (run_of (drop (count_of p (is_allowed p mask) items) items)))))
            (ready-run (tail_over tail (take (count_of p (is_allowed p mask) items) items)) (drop (count_of p (is_allowed p mask) items) items))

        even : p.dims ≡ 0 → number_of p.level ≤ 4 → (m : ℕ) × (length (behind_run 0 (drop (count_of p (is_allowed p mask) items) items)) ≡ m * p.lanes)
        even none level =
            let long = ap length (no-run p (drop (count_of p (is_allowed p mask) items) items) none (AreItems-drop p (count_of p (is_allowed p mask) items) items goes.fit)) ∙ length-drop (count_of p (is_allowed p mask) items) items in
            let c = count level in
            let each = all-elements p items none goes.fit in
            let e = goes.even none level in
            by_number e.0 e.1 long c each
          where
            by_number : (m : ℕ) → length items ≡ m * p.lanes → length (behind_run 0 (drop (count_of p (is_allowed p mask) items) items)) ≡ length items - count_of p (is_allowed p mask) items →
                count_of p (is_allowed p mask) items ≡ min (elements_of items) p.lanes → elements_of items ≡ length items → (n : ℕ) × (length (behind_run 0 (drop (count_of p (is_allowed p mask) items) items)) ≡ n * p.lanes)
            by_number zero is_m long c each = (0, omega (arith, is_m, long))
            by_number (suc m) is_m long c each = (m, omega (arith, is_m, long, c, each, suc-mul m p.lanes))

        by_first : number_of p.level ≤ 3 → ((i : ℕ) → i < p.lanes → acts full.lanes i ≡ false) → (first : Item) (others : List Item) → items ≡ first ∷ others →
            (c : ℕ) × ((after : List Item) × ((parts_below (λ i. carried (full.lanes i)) p.lanes ≡ Close c ∷ after) × (closes_empty tail c ≡ true)))
        by_first level none first others same = by_item first same
          where
            low : number_of p.level ≤ 4
            low = omega (arith, level)

            idle : count_of p (is_allowed p mask) items ≡ 0
            idle =
                let no : nat_lt 0 (count_of p (is_allowed p mask) items) ≡ false = sym (acts-low low (run_of (drop (count_of p (is_allowed p mask) items) items)) (behind_run 0 (drop (count_of p (is_allowed p mask) items) items)) 0) ∙ none 0 some in
                grind (arith, nat_tests)

            by_item : (x : Item) → items ≡ x ∷ others → (c : ℕ) × ((after : List Item) × ((parts_below (λ i. carried (full.lanes i)) p.lanes ≡ Close c ∷ after) × (closes_empty tail c ≡ true)))
            by_item (Elem word) s = let one : elements_of items ≡ suc (elements_of others) = ap elements_of s in let c = count low in let i = idle in absurd (omega (arith, one, c, i, some))
            by_item (Close c) s = (
              c,
              (
                map Close (run_from (suc c) others),
                (
                  parts-are ∙ ap (λ (n : ℕ). take n items ++ map Close (run_of (drop n items))) idle ∙ ap (λ (l : List Item). map Close (run_of l)) s ∙ ap (map Close) (run-close c others),
                  subst (StartsEmpty tail) s (goes.ready level),
                ),
              ),
            )

-- ---- any wish

pub keeps_of : (p : Parameters) (wish : Wish) (tail : Option Tail) (item : Item) (more : List Item) → 1 ≤ p.lanes → Goes p tail (item ∷ more) → Keeps p tail (load_of p wish (item ∷ more))
keeps_of p wish tail item more some goes = by_empty (is_empty_wish p wish) refl (taken_of p wish (item ∷ more) some goes.fit)
  where
    by_late : (test : Bool) → leaves p wish (count_of p (is_allowed p (mask_of p wish)) (item ∷ more)) ≡ test →
        IsTaken p (item ∷ more) (if test then late p some tail (item ∷ more) goes (mask_of p wish) wish else full p some tail (item ∷ more) goes (mask_of p wish) wish) →
        Keeps p tail (if test then late p some tail (item ∷ more) goes (mask_of p wish) wish else full p some tail (item ∷ more) goes (mask_of p wish) wish)
    by_late true is taken = keeps-late p some tail (item ∷ more) goes (mask_of p wish) wish is taken
    by_late false is taken = keeps-full p some tail (item ∷ more) goes (mask_of p wish) wish item more refl taken

    by_laned : (test : Bool) → (wish.laned && (number_of p.level == 8)) ≡ test →
        IsTaken p (item ∷ more) (if test then laned_load p (is_allowed p (mask_of p wish)) (item ∷ more)
        else filled_load p (is_allowed p (mask_of p wish)) wish (count_of p (is_allowed p (mask_of p wish)) (item ∷ more)) (item ∷ more)) →
        Keeps p tail (if test then laned_load p (is_allowed p (mask_of p wish)) (item ∷ more)
        else filled_load p (is_allowed p (mask_of p wish)) wish (count_of p (is_allowed p (mask_of p wish)) (item ∷ more)) (item ∷ more))
    by_laned true is taken = keeps-high p some tail (item ∷ more) goes (laned_load p (is_allowed p (mask_of p wish)) (item ∷ more)) taken (let eight : number_of p.level ≡ 8 = grind (arith, nat_tests) in omega (arith, eight))
    by_laned false is taken = by_late (leaves p wish (count_of p (is_allowed p (mask_of p wish)) (item ∷ more))) refl taken

    by_empty : (test : Bool) → is_empty_wish p wish ≡ test →
        IsTaken p (item ∷ more) (if test then record { lanes = λ lane. no_lane; rest = item ∷ more }
        else (if wish.laned && (number_of p.level == 8) then laned_load p (is_allowed p (mask_of p wish)) (item ∷ more)
        else filled_load p (is_allowed p (mask_of p wish)) wish (count_of p (is_allowed p (mask_of p wish)) (item ∷ more)) (item ∷ more))) →
        Keeps p tail (if test then record { lanes = λ lane. no_lane; rest = item ∷ more }
        else (if wish.laned && (number_of p.level == 8) then laned_load p (is_allowed p (mask_of p wish)) (item ∷ more)
        else filled_load p (is_allowed p (mask_of p wish)) wish (count_of p (is_allowed p (mask_of p wish)) (item ∷ more)) (item ∷ more)))
    by_empty true is taken = keeps-nothing p some tail (item ∷ more) goes wish is taken
    by_empty false is taken = by_laned (wish.laned && (number_of p.level == 8)) refl taken
