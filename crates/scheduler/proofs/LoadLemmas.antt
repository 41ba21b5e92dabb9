-- The items that a wish takes: the transfer carries them, and the items that are left follow them.
use Rattle.std.proofs.Common.{◌≡◌, ◌∙◌, ◌⊎◌, inl, inr, ℕ, zero, suc, ◌+◌, ◌-◌, ◌<◌, ◌≤◌, Bool, true, false, ◌&&◌, ◌==◌, nat_le, nat_lt, if◌then◌else◌, List, [], ◌∷◌, ◌++◌, length, take, drop, map, min, Option, None, is_some, refl, sym, ap, subst, append_assoc, arith}
use Rattle.std.specs.Int.{bit_at}
use Rattle.std.proofs.lemmas.Bool.{cases_lt}
use Rattle.std.proofs.lemmas.Bool.Decides.{nat_tests}
use Rattle.std.proofs.lemmas.List.{append-nil, take-append-drop}
use Rattle.tydi_base.specs.Bits.{zero_bits}
use Rattle.tydi_base.specs.Level.{number_of}
use Rattle.physical_stream.specs.Params.{Parameters}
use Rattle.physical_stream.specs.Items.{parts_below, items_of}
use Rattle.physical_stream.proofs.PartsLemmas.{parts_below-same}
use Rattle.physical_stream.specs.declared.item.Item.{Item}
use Rattle.physical_stream.specs.declared.item.Item.TheVariants.{Elem, Close}
use Rattle.scheduler.specs.Lanes.{Lane, no_lane, word_or, transfer_of}
use Rattle.scheduler.specs.Planned.{Load, run_from, run_of, behind_run, elements_of, is_allowed, lowest_one, ones_below, place_in, lane_of, behind_lane, behind_lanes, laned_load, first_word, packed_load, count_of, leaves, filled_load, is_empty_wish, mask_of, load_of}
use Rattle.plan_text.specs.declared.plan.Wish.{Wish}
use Rattle.scheduler.specs.Laws.{AreItems}
use Rattle.scheduler.proofs.PartLemmas.{Rise, Below}
use Rattle.scheduler.proofs.CarryLemmas.{AreLanes, item_for, carried, items_of-carried}

pub AreItems-drop : (p : Parameters) (n : ℕ) (items : List Item) → AreItems p items → AreItems p (drop n items)
AreItems-drop p zero items are = are
AreItems-drop p (suc n) [] are = tt
AreItems-drop p (suc n) (Elem word ∷ more) are = AreItems-drop p n more are.1
AreItems-drop p (suc n) (Close dim ∷ more) are = AreItems-drop p n more are.1

pub AreItems-append : (p : Parameters) (one other : List Item) → AreItems p one → AreItems p other → AreItems p (one ++ other)
AreItems-append p [] other fit more = more
AreItems-append p (Elem word ∷ items) other fit more = (fit.0, AreItems-append p items other fit.1 more)
AreItems-append p (Close dim ∷ items) other fit more = (fit.0, AreItems-append p items other fit.1 more)

-- ---- runs of Closes

run-rises : (least : ℕ) (items : List Item) → Rise least (run_from least items)
run-rises least [] = tt
run-rises least (Elem word ∷ more) = tt
run-rises least (Close dim ∷ more) = by_test (run-rises (suc dim) more) (nat_le least dim) refl
  where
    by_test : Rise (suc dim) (run_from (suc dim) more) → (test : Bool) → nat_le least dim ≡ test → Rise least (if test then dim ∷ run_from (suc dim) more else [])
    by_test earlier true is = (grind (arith, nat_tests), earlier)
    by_test earlier false is = tt

run-within : (p : Parameters) (least : ℕ) (items : List Item) → AreItems p items → Below p.dims (run_from least items)
run-within p least [] are = tt
run-within p least (Elem word ∷ more) are = tt
run-within p least (Close dim ∷ more) are = by_test (run-within p (suc dim) more are.1) (nat_le least dim)
  where
    by_test : Below p.dims (run_from (suc dim) more) → (test : Bool) → Below p.dims (if test then dim ∷ run_from (suc dim) more else [])
    by_test earlier true = (are.0, earlier)
    by_test earlier false = tt

pub run-splits : (least : ℕ) (items : List Item) → map Close (run_from least items) ++ behind_run least items ≡ items
run-splits least [] = refl
run-splits least (Elem word ∷ more) = refl
run-splits least (Close dim ∷ more) = by_test (run-splits (suc dim) more) (nat_le least dim)
  where
    by_test : map Close (run_from (suc dim) more) ++ behind_run (suc dim) more ≡ more → (test : Bool) →
        map Close (if test then dim ∷ run_from (suc dim) more else []) ++ (if test then behind_run (suc dim) more else Close dim ∷ more) ≡ Close dim ∷ more
    by_test earlier true = ap (λ (l : List Item). Close dim ∷ l) earlier
    by_test earlier false = refl

AreItems-run : (p : Parameters) (least : ℕ) (items : List Item) → AreItems p items → AreItems p (behind_run least items)
AreItems-run p least [] are = tt
AreItems-run p least (Elem word ∷ more) are = are
AreItems-run p least (Close dim ∷ more) are = by_test (AreItems-run p (suc dim) more are.1) (nat_le least dim)
  where
    by_test : AreItems p (behind_run (suc dim) more) → (test : Bool) → AreItems p (if test then behind_run (suc dim) more else Close dim ∷ more)
    by_test earlier true = earlier
    by_test earlier false = are

-- ---- elements in the lowest lanes

take-element : (items : List Item) (n : ℕ) → n < elements_of items → take n items ++ item_for (first_word (drop n items)) ≡ take (suc n) items
take-element [] n less = absurd (omega (arith, less))
take-element (Elem word ∷ more) zero less = refl
take-element (Elem word ∷ more) (suc n) less = ap (λ (l : List Item). Elem word ∷ l) (take-element more n (omega (arith, less)))
take-element (Close dim ∷ more) n less = absurd (omega (arith, less))

first-some : (items : List Item) (n : ℕ) → n < elements_of items → is_some (first_word (drop n items)) ≡ true
first-some [] n less = absurd (omega (arith, less))
first-some (Elem word ∷ more) zero less = refl
first-some (Elem word ∷ more) (suc n) less = first-some more n (omega (arith, less))
first-some (Close dim ∷ more) n less = absurd (omega (arith, less))

pub length-zeros : (n : ℕ) → length (zero_bits n) ≡ n
length-zeros zero = refl
length-zeros (suc n) = ap suc (length-zeros n)

pub first-word : (p : Parameters) (items : List Item) → AreItems p items → length (word_or p.element (first_word items)) ≡ p.element
first-word p [] are = length-zeros p.element
first-word p (Elem word ∷ more) are = are.0
first-word p (Close dim ∷ more) are = length-zeros p.element

place-mono : (allowed : ℕ → Bool) (a b : ℕ) → a ≤ b → place_in allowed a ≤ place_in allowed b
place-mono allowed a zero le = let same : a ≡ 0 = omega arith in rw same (omega arith)
place-mono allowed a (suc b) le = by_place (place-mono allowed a b) (cases_lt b a)
  where
    by_place : (a ≤ b → place_in allowed a ≤ place_in allowed b) → (b < a) ⊎ (a ≤ b) → place_in allowed a ≤ (if allowed b then 1 else 0) + place_in allowed b
    by_place earlier (inl more) = let same : a ≡ suc b = omega arith in rw same (omega arith)
    by_place earlier (inr l) = omega (arith, earlier l)

module _ (p : Parameters) (allowed : ℕ → Bool) (k : ℕ) (items : List Item) (few : k ≤ elements_of items) where
  abbrev test_at : ℕ → Bool
  test_at lane = allowed lane && nat_lt (place_in allowed lane) k

  abbrev word_by : ℕ → Bool → Option (List Bool)
  word_by lane test = if test then first_word (drop (place_in allowed lane) items) else None

  taken : (n : ℕ) → parts_below (λ lane. item_for (word_by lane (test_at lane))) n ≡ take (min (place_in allowed n) k) items
  taken zero = let none : min 0 k ≡ 0 = omega arith in ap (λ (m : ℕ). take m items) (sym none)
  taken (suc n) = ap (λ (l : List Item). l ++ item_for (word_by n (test_at n))) (taken n) ∙ by_allowed (allowed n)
    where
      by_place : (place_in allowed n < k) ⊎ (k ≤ place_in allowed n) → take (min (place_in allowed n) k) items ++ item_for (word_by n (nat_lt (place_in allowed n) k)) ≡ take (min (1 + place_in allowed n) k) items
      by_place (inl less) =
          let test : nat_lt (place_in allowed n) k ≡ true = grind (arith, nat_tests) in
          let here : min (place_in allowed n) k ≡ place_in allowed n = omega arith in
          let next : min (1 + place_in allowed n) k ≡ suc (place_in allowed n) = omega arith in
          rw (test, here, next) (take-element items (place_in allowed n) (omega arith))
      by_place (inr more) =
          let test : nat_lt (place_in allowed n) k ≡ false = grind (arith, nat_tests) in
          let here : min (place_in allowed n) k ≡ k = omega arith in
          let next : min (1 + place_in allowed n) k ≡ k = omega arith in
          rw (test, here, next) (append-nil (take k items))

      by_allowed : (test : Bool) → take (min (place_in allowed n) k) items ++ item_for (word_by n (test && nat_lt (place_in allowed n) k)) ≡ take (min ((if test then 1 else 0) + place_in allowed n) k) items
      by_allowed true = by_place (cases_lt (place_in allowed n) k)
      by_allowed false = append-nil (take (min (place_in allowed n) k) items) ∙ ap (λ (m : ℕ). take (min m k) items) (omega arith)

  -- a lane is active exactly where it is one of the lowest k allowed ones
  pub acts-at : (n : ℕ) → is_some (word_by n (test_at n)) ≡ test_at n
  acts-at n = by_test (test_at n) refl
    where
      by_test : (test : Bool) → test_at n ≡ test → is_some (word_by n test) ≡ test
      by_test true is = first-some items (place_in allowed n) (let less : place_in allowed n < k = grind (arith, nat_tests) in omega (arith, less, few))
      by_test false is = refl

  together-at : (n : ℕ) → ((i j l : ℕ) → i ≤ j → j ≤ l → l < n → allowed i ≡ true → allowed l ≡ true → allowed j ≡ true) →
      (i j l : ℕ) → i ≤ j → j ≤ l → l < n → is_some (word_by i (test_at i)) ≡ true → is_some (word_by l (test_at l)) ≡ true → is_some (word_by j (test_at j)) ≡ true
  together-at n convex i j l le le' less one other =
      let first : test_at i ≡ true = sym (acts-at i) ∙ one in
      let last : test_at l ≡ true = sym (acts-at l) ∙ other in
      let mono = place-mono allowed j l le' in
      let fits : allowed j ≡ true = convex i j l le le' less (grind (arith, nat_tests)) (grind (arith, nat_tests)) in
      let in_front : place_in allowed l < k = grind (arith, nat_tests) in
      acts-at j ∙ grind (arith, nat_tests)

-- Closes in the last lane alone
last-closes : (e : ℕ → List Item) (closes : List ℕ) (n m : ℕ) → n ≡ suc m → parts_below (λ i. e i ++ map Close (if i + 1 == n then closes else [])) n ≡ parts_below e n ++ map Close closes
last-closes e closes n m same =
    let last : (m + 1 == n) ≡ true = grind (arith, nat_tests) in
    let before : (i : ℕ) → i < m → e i ++ map Close (if i + 1 == n then closes else []) ≡ e i =
    λ i less. let no_last : (i + 1 == n) ≡ false = grind (arith, nat_tests) in rw no_last (append-nil (e i)) in
    subst (λ (x : ℕ). parts_below (λ i. e i ++ map Close (if i + 1 == n then closes else [])) x ≡ parts_below e x ++ map Close closes) (sym same)
    (ap (λ (l : List Item). l ++ (e m ++ map Close (if m + 1 == n then closes else []))) (parts_below-same (λ i. e i ++ map Close (if i + 1 == n then closes else [])) e m before)
    ∙ ap (λ (b : Bool). parts_below e m ++ (e m ++ map Close (if b then closes else []))) last
    ∙ sym (append_assoc (parts_below e m) (e m) (map Close closes)))

-- ---- the allowed lanes of low levels lie together

if-else : {A : Type 0} (test : Bool) (a b : A) → test ≡ false → (if test then a else b) ≡ b
if-else test a b is = rw is refl

abbrev at_six : Parameters → ℕ → Bool → ℕ → Bool
at_six p mask six lane = if six then nat_le (lowest_one mask p.lanes 0) lane && nat_lt lane (lowest_one mask p.lanes 0 + ones_below mask p.lanes) else bit_at mask lane == 1

abbrev at_five : Parameters → ℕ → Bool → ℕ → Bool
at_five p mask five lane = if five then nat_lt lane (ones_below mask p.lanes) else at_six p mask (number_of p.level == 6) lane

allowed-together : (p : Parameters) (mask : ℕ) → number_of p.level ≤ 6 → (i j l : ℕ) → i ≤ j → j ≤ l → l < p.lanes → is_allowed p mask i ≡ true → is_allowed p mask l ≡ true → is_allowed p mask j ≡ true
allowed-together p mask level i j l le le' less = by_four (nat_le (number_of p.level) 4) refl
  where
    by_six : (six : Bool) → (number_of p.level == 6) ≡ six → 5 < number_of p.level → at_six p mask six i ≡ true → at_six p mask six l ≡ true → at_six p mask six j ≡ true
    by_six true is more one other = grind (arith, nat_tests)
    by_six false is more one other = absurd (let no_six : number_of p.level ≡ 6 → ⊥ = grind (arith, nat_tests) in omega (arith, no_six, level, more))

    by_five : (five : Bool) → (number_of p.level == 5) ≡ five → 4 < number_of p.level → at_five p mask five i ≡ true → at_five p mask five l ≡ true → at_five p mask five j ≡ true
    by_five true is more one other = grind (arith, nat_tests)
    by_five false is more one other =
        let no_five : number_of p.level ≡ 5 → ⊥ = grind (arith, nat_tests) in
        by_six (number_of p.level == 6) refl (omega (arith, more, no_five)) one other

    by_four : (four : Bool) → nat_le (number_of p.level) 4 ≡ four → (if four then true else at_five p mask (number_of p.level == 5) i) ≡ true → (if four then true else at_five p mask (number_of p.level == 5) l) ≡ true →
        (if four then true else at_five p mask (number_of p.level == 5) j) ≡ true
    by_four true is one other = refl
    by_four false is one other = by_five (number_of p.level == 5) refl (grind (arith, nat_tests)) one other

-- ---- the items taken, with those left, are all

pub record IsTaken (p : Parameters) (items : List Item) (load : Load) : Type 0 where
  pub are : AreLanes p load.lanes
  pub splits : parts_below (λ i. carried (load.lanes i)) p.lanes ++ load.rest ≡ items
  pub left : AreItems p load.rest

pub count-fits : (a b : ℕ) → (if nat_le a b then a else b) ≤ a × ((if nat_le a b then a else b) ≤ b)
count-fits a b = by_test (nat_le a b) refl
  where
    by_test : (test : Bool) → nat_le a b ≡ test → (if test then a else b) ≤ a × ((if test then a else b) ≤ b)
    by_test true is = (omega arith, grind (arith, nat_tests))
    by_test false is = (let more : b < a = grind (arith, nat_tests) in omega (arith, more), omega arith)

module _ (p : Parameters) (some : 1 ≤ p.lanes) (items : List Item) (fit : AreItems p items) where
  abbrev nothing : Load
  nothing = record { lanes = λ lane. no_lane; rest = items }

  parts-nothing : (n : ℕ) → parts_below (λ i. carried no_lane) n ≡ []
  parts-nothing zero = refl
  parts-nothing (suc n) = ap (λ (l : List Item). l ++ []) (parts-nothing n)

  taken-nothing : IsTaken p items nothing
  taken-nothing = record {
    are = record { words = λ i less. length-zeros p.element; rise = λ i. tt; within = λ i. tt; together = λ level i j k le le' less one other. cc };
    splits = ap (λ (l : List Item). l ++ items) (parts-nothing p.lanes);
    left = fit;
  }

  module _ (allowed : ℕ → Bool) (convex : number_of p.level ≤ 6 → (i j l : ℕ) → i ≤ j → j ≤ l → l < p.lanes → allowed i ≡ true → allowed l ≡ true → allowed j ≡ true) where
    closes-if : (P : List ℕ → Type 0) (test : Bool) (closes : List ℕ) → P closes → P [] → P (if test then closes else [])
    closes-if P true closes sure none = sure
    closes-if P false closes sure none = none

    word-if : (lane : ℕ) (test : Bool) → length (word_or p.element (if test then first_word (drop (place_in allowed lane) items) else None)) ≡ p.element
    word-if lane true = first-word p (drop (place_in allowed lane) items) (AreItems-drop p (place_in allowed lane) items fit)
    word-if lane false = length-zeros p.element

    taken-packed : (k : ℕ) (closes : List ℕ) (rest : List Item) → k ≤ elements_of items → k ≤ place_in allowed p.lanes → Rise 0 closes → Below p.dims closes → AreItems p rest →
        map Close closes ++ rest ≡ drop k items → IsTaken p items (packed_load p allowed k closes items rest)
    taken-packed k closes rest few fits rise within left is =
        let all : min (place_in allowed p.lanes) k ≡ k = omega arith in
        let carries : parts_below (λ i. carried ((packed_load p allowed k closes items rest).lanes i)) p.lanes ≡ take k items ++ map Close closes =
        last-closes (λ lane. item_for (if allowed lane && nat_lt (place_in allowed lane) k then first_word (drop (place_in allowed lane) items) else None)) closes p.lanes (p.lanes - 1) (omega arith)
        ∙ ap (λ (l : List Item). l ++ map Close closes) (taken p allowed k items few p.lanes ∙ ap (λ (m : ℕ). take m items) all) in
        record {
          are = record {
            words = λ i less. word-if i (allowed i && nat_lt (place_in allowed i) k);
            rise = λ i. closes-if (Rise 0) (i + 1 == p.lanes) closes rise tt;
            within = λ i. closes-if (Below p.dims) (i + 1 == p.lanes) closes within tt;
            together = λ level. together-at p allowed k items few p.lanes (convex level);
          };
          splits = ap (λ (l : List Item). l ++ rest) carries ∙ append_assoc (take k items) (map Close closes) rest ∙ ap (λ (l : List Item). take k items ++ l) is ∙ take-append-drop k items;
          left = left;
        }

    taken-filled : (wish : Wish) → IsTaken p items (filled_load p allowed wish (count_of p allowed items) items)
    taken-filled wish = by_test (leaves p wish (count_of p allowed items))
      where
        k : ℕ
        k = count_of p allowed items

        fits : count_of p allowed items ≤ elements_of items × (count_of p allowed items ≤ place_in allowed p.lanes)
        fits = count-fits (elements_of items) (place_in allowed p.lanes)

        left : AreItems p (drop (count_of p allowed items) items)
        left = AreItems-drop p (count_of p allowed items) items fit

        by_test : (test : Bool) → IsTaken p items (if test then packed_load p allowed (count_of p allowed items) [] items (drop (count_of p allowed items) items)
            else packed_load p allowed (count_of p allowed items) (run_of (drop (count_of p allowed items) items)) items (behind_run 0 (drop (count_of p allowed items) items)))
        by_test true = taken-packed (count_of p allowed items) [] (drop (count_of p allowed items) items) fits.0 fits.1 tt tt left refl
        by_test false =
            taken-packed (count_of p allowed items) (run_of (drop (count_of p allowed items) items)) (behind_run 0 (drop (count_of p allowed items) items)) fits.0 fits.1
            (run-rises 0 (drop (count_of p allowed items) items)) (run-within p 0 (drop (count_of p allowed items) items) left) (AreItems-run p 0 (drop (count_of p allowed items) items) left) (run-splits 0 (drop (count_of p allowed items) items))

-- ---- lane by lane

lane-splits : (items : List Item) → carried (lane_of items) ++ behind_lane items ≡ items
lane-splits [] = refl
lane-splits (Elem word ∷ more) = ap (λ (l : List Item). Elem word ∷ l) (run-splits 0 more)
lane-splits (Close dim ∷ more) = run-splits 0 (Close dim ∷ more)

AreItems-lane : (p : Parameters) (items : List Item) → AreItems p items → AreItems p (behind_lane items)
AreItems-lane p [] fit = tt
AreItems-lane p (Elem word ∷ more) fit = AreItems-run p 0 more fit.1
AreItems-lane p (Close dim ∷ more) fit = AreItems-run p 0 (Close dim ∷ more) fit

AreItems-lanes : (p : Parameters) (n : ℕ) (items : List Item) → AreItems p items → AreItems p (behind_lanes n items)
AreItems-lanes p zero items fit = fit
AreItems-lanes p (suc n) items fit = AreItems-lanes p n (behind_lane items) (AreItems-lane p items fit)

pub lane-last : (n : ℕ) (items : List Item) → behind_lanes (suc n) items ≡ behind_lane (behind_lanes n items)
lane-last zero items = refl
lane-last (suc n) items = lane-last n (behind_lane items)

lane-word : (p : Parameters) (items : List Item) → AreItems p items → length (word_or p.element (lane_of items).word) ≡ p.element
lane-word p [] fit = length-zeros p.element
lane-word p (Elem word ∷ more) fit = fit.0
lane-word p (Close dim ∷ more) fit = length-zeros p.element

lane-rises : (items : List Item) → Rise 0 (lane_of items).closes
lane-rises [] = tt
lane-rises (Elem word ∷ more) = run-rises 0 more
lane-rises (Close dim ∷ more) = run-rises 0 (Close dim ∷ more)

lane-within : (p : Parameters) (items : List Item) → AreItems p items → Below p.dims (lane_of items).closes
lane-within p [] fit = tt
lane-within p (Elem word ∷ more) fit = run-within p 0 more fit.1
lane-within p (Close dim ∷ more) fit = run-within p 0 (Close dim ∷ more) fit

module _ (p : Parameters) (items : List Item) (fit : AreItems p items) (allowed : ℕ → Bool) where
  laned-splits : (n : ℕ) → parts_below (λ i. carried ((laned_load p allowed items).lanes i)) n ++ behind_lanes (place_in allowed n) items ≡ items
  laned-splits zero = refl
  laned-splits (suc n) = by_test (allowed n) ∙ laned-splits n
    where
      parts : List Item
      parts = parts_below (λ i. carried ((laned_load p allowed items).lanes i)) n

      by_test : (test : Bool) → parts_below (λ i. carried ((laned_load p allowed items).lanes i)) n ++ carried (if test then lane_of (behind_lanes (place_in allowed n) items) else no_lane)
          ++ behind_lanes ((if test then 1 else 0) + place_in allowed n) items ≡ parts_below (λ i. carried ((laned_load p allowed items).lanes i)) n ++ behind_lanes (place_in allowed n) items
      by_test true =
          let next : 1 + place_in allowed n ≡ suc (place_in allowed n) = omega arith in
          append_assoc (parts_below (λ i. carried ((laned_load p allowed items).lanes i)) n) (carried (lane_of (behind_lanes (place_in allowed n) items))) (behind_lanes (1 + place_in allowed n) items)
          ∙ ap (λ (l : List Item). parts_below (λ i. carried ((laned_load p allowed items).lanes i)) n ++ l)
          (ap (λ (m : ℕ). carried (lane_of (behind_lanes (place_in allowed n) items)) ++ behind_lanes m items) next
          ∙ ap (λ (l : List Item). carried (lane_of (behind_lanes (place_in allowed n) items)) ++ l) (lane-last (place_in allowed n) items) ∙ lane-splits (behind_lanes (place_in allowed n) items))
      by_test false =
          let same : 0 + place_in allowed n ≡ place_in allowed n = omega arith in
          append_assoc (parts_below (λ i. carried ((laned_load p allowed items).lanes i)) n) [] (behind_lanes (0 + place_in allowed n) items)
          ∙ ap (λ (m : ℕ). parts_below (λ i. carried ((laned_load p allowed items).lanes i)) n ++ behind_lanes m items) same

  lane-if : (P : Lane → Type 0) (test : Bool) (n : ℕ) → P (lane_of (behind_lanes n items)) → P no_lane → P (if test then lane_of (behind_lanes n items) else no_lane)
  lane-if P true n sure none = sure
  lane-if P false n sure none = none

  pub taken-laned : 6 < number_of p.level → IsTaken p items (laned_load p allowed items)
  taken-laned high = record {
    are = record {
      words = λ i less. lane-if (λ (lane : Lane). length (word_or p.element lane.word) ≡ p.element) (allowed i) (place_in allowed i) (lane-word p (behind_lanes (place_in allowed i) items) (AreItems-lanes p (place_in allowed i) items fit)) (length-zeros p.element);
      rise = λ i. lane-if (λ (lane : Lane). Rise 0 lane.closes) (allowed i) (place_in allowed i) (lane-rises (behind_lanes (place_in allowed i) items)) tt;
      within = λ i. lane-if (λ (lane : Lane). Below p.dims lane.closes) (allowed i) (place_in allowed i) (lane-within p (behind_lanes (place_in allowed i) items) (AreItems-lanes p (place_in allowed i) items fit)) tt;
      together = λ level. absurd (omega (arith, level, high));
    };
    splits = laned-splits p.lanes;
    left = AreItems-lanes p (place_in allowed p.lanes) items fit;
  }

-- ---- the items that any wish takes

pub taken_of : (p : Parameters) (wish : Wish) (items : List Item) → 1 ≤ p.lanes → AreItems p items → IsTaken p items (load_of p wish items)
taken_of p wish items some fit = by_empty (is_empty_wish p wish)
  where
    allowed : ℕ → Bool
    allowed = is_allowed p (mask_of p wish)

    by_laned : (test : Bool) → (wish.laned && (number_of p.level == 8)) ≡ test →
        IsTaken p items (if test then laned_load p (is_allowed p (mask_of p wish)) items
        else filled_load p (is_allowed p (mask_of p wish)) wish (count_of p (is_allowed p (mask_of p wish)) items) items)
    by_laned true is = taken-laned p items fit (is_allowed p (mask_of p wish)) (let eight : number_of p.level ≡ 8 = grind (arith, nat_tests) in omega (arith, eight))
    by_laned false is = taken-filled p some items fit (is_allowed p (mask_of p wish)) (allowed-together p (mask_of p wish)) wish

    by_empty : (test : Bool) → IsTaken p items (if test then record { lanes = λ lane. no_lane; rest = items }
        else (if wish.laned && (number_of p.level == 8) then laned_load p (is_allowed p (mask_of p wish)) items
        else filled_load p (is_allowed p (mask_of p wish)) wish (count_of p (is_allowed p (mask_of p wish)) items) items))
    by_empty true = taken-nothing p some items fit
    by_empty false = by_laned (wish.laned && (number_of p.level == 8)) refl

-- the transfer carries the items that are taken, and those that are left follow them
pub carries : (p : Parameters) (wish : Wish) (user : List Bool) (items : List Item) → 1 ≤ p.lanes → AreItems p items →
    items_of p (transfer_of p (load_of p wish items).lanes user) ++ (load_of p wish items).rest ≡ items
carries p wish user items some fit =
    let t = taken_of p wish items some fit in
    ap (λ (l : List Item). l ++ (load_of p wish items).rest) (items_of-carried p (load_of p wish items).lanes user t.are) ∙ t.splits
