-- The lanes of a way, and what a wish takes.
use Rattle.std.proofs.Common.{◌≡◌, ◌∙◌, ◌⊎◌, inl, inr, ℕ, zero, suc, ◌+◌, ◌-◌, ◌^◌, ◌<◌, ◌≤◌, Bool, true, false, ◌&&◌, ◌==◌, nat_le, nat_lt, if◌then◌else◌, List, [], ◌∷◌, length, drop, min, Option, None, is_some, refl, sym, ap, arith}
use Rattle.std.specs.Int.{bit_at}
use Rattle.std.proofs.lemmas.Bool.{cases_lt}
use Rattle.std.proofs.lemmas.Bool.Decides.{nat_tests}
use Rattle.std.proofs.lemmas.List.{length-drop, drop-drop}
use Rattle.std.proofs.Math.Pow.{pow_pos}
use Rattle.std.proofs.lemmas.Nat.Bits.{bit_at-zero, bit_at-lt, bit_at-pow_same, bit_at-pow_other}
use Rattle.tydi_base.specs.Level.{number_of}
use Rattle.physical_stream.specs.Params.{Parameters}
use Rattle.physical_stream.specs.declared.item.Item.{Item}
use Rattle.physical_stream.specs.declared.item.Item.TheVariants.{Elem, Close}
use Rattle.scheduler.specs.declared.way.Way.{Way}
use Rattle.scheduler.specs.Lanes.{Lane, no_lane}
use Rattle.scheduler.specs.Planned.{Load, run_from, run_of, behind_run, elements_of, first_word, is_allowed, ones_below, place_in, lane_of, behind_lane, behind_lanes, packed_load, count_of, leaves, filled_load, is_empty_wish, mask_of}
use Rattle.scheduler.specs.Filling.{behind_word, behind_taken, taken_word, is_set, lane_with, rest_with, takes_at, left_after, lane_after, lanes_on, left_on}
use Rattle.scheduler.specs.Meeting.{Allows, AreCounted, IsCounted, IsPackedWay, Meets, left_by}
use Rattle.plan_text.specs.declared.plan.Wish.{Wish}
use Rattle.scheduler.proofs.PartLemmas.{lt-true, lt-false, eq-true, eq-false}
use Rattle.scheduler.proofs.LoadLemmas.{count-fits, lane-last}

-- ---- how many elements stand there

next-drop : (a b : ℕ) (items : List Item) → drop 1 (drop (a + b) items) ≡ drop (a + (b + 1)) items
next-drop a b items = drop-drop 1 (a + b) items ∙ ap (λ (n : ℕ). drop n items) (let e : a + b + 1 ≡ a + (b + 1) = omega arith in e)

one-element : (left : List Item) → is_some (first_word left) ≡ true → elements_of left ≡ 1 + elements_of (drop 1 left)
one-element [] some = cc
one-element (Elem word ∷ more) some = omega arith
one-element (Close dim ∷ more) some = cc

some-item : (left : List Item) → is_some (first_word left) ≡ true → 0 < length left
some-item [] some = cc
some-item (item ∷ more) some = omega arith

no-element : (left : List Item) → is_some (first_word left) ≡ false → elements_of left ≡ 0
no-element [] none = refl
no-element (Elem word ∷ more) none = cc
no-element (Close dim ∷ more) none = refl

pub counted-start : (items : List Item) (place : ℕ) → place ≤ length items → AreCounted items place 0
counted-start items place within =
    let e : place + 0 ≡ place = omega arith in
    record { all = ap (λ (n : ℕ). elements_of (drop n items)) (sym e) ∙ omega arith; within = omega (arith, within) }

-- one more, where an element stands there
pub counted-next : (items : List Item) (place count : ℕ) → AreCounted items place count → is_some (first_word (drop (place + count) items)) ≡ true → AreCounted items place (count + 1)
counted-next items place count so sure = record {
  all = let one = one-element (drop (place + count) items) sure in let next = ap elements_of (next-drop place count items) in omega (arith, so.all, one, next);
  within = let some = some-item (drop (place + count) items) sure in let long = length-drop (place + count) items in omega (arith, some, long);
}

pub counted-here : (items : List Item) (place most count : ℕ) → AreCounted items place count → count ≤ most → is_some (first_word (drop (place + count) items)) ≡ false → IsCounted items place most count
counted-here items place most count so few never = record { is = by_test (nat_le (elements_of (drop place items)) most) refl; within = so.within }
  where
    all : elements_of (drop place items) ≡ count
    all = let none = no-element (drop (place + count) items) never in omega (arith, so.all, none)

    by_test : (test : Bool) → nat_le (elements_of (drop place items)) most ≡ test → count ≡ (if test then elements_of (drop place items) else most)
    by_test true is = sym all
    by_test false is = let e = all in let over : most < elements_of (drop place items) = grind (arith, nat_tests) in absurd (omega (arith, over, e, few))

pub counted-all : (items : List Item) (place most : ℕ) → AreCounted items place most → IsCounted items place most most
counted-all items place most so = record { is = by_test (nat_le (elements_of (drop place items)) most) refl; within = so.within }
  where
    by_test : (test : Bool) → nat_le (elements_of (drop place items)) most ≡ test → most ≡ (if test then elements_of (drop place items) else most)
    by_test true is = let few : elements_of (drop place items) ≤ most = grind (arith, nat_tests) in omega (arith, few, so.all)
    by_test false is = refl

-- ---- sets of lanes

pub none-set : (lane : ℕ) → is_set 0 lane ≡ false
none-set lane = let e = bit_at-zero lane in grind (arith, nat_tests)

pub last-set : (lanes lane : ℕ) → 1 ≤ lanes → lane < lanes → is_set (2 ^ (lanes - 1)) lane ≡ (lane + 1 == lanes)
last-set lanes lane some less = by_place (cases_lt (lane + 1) lanes)
  where
    by_place : (lane + 1 < lanes) ⊎ (lanes ≤ lane + 1) → is_set (2 ^ (lanes - 1)) lane ≡ (lane + 1 == lanes)
    by_place (inl under) =
        let bit = bit_at-pow_other (lanes - 1) lane (λ same. omega (arith, same, under)) in
        rw (bit, eq-false (lane + 1) lanes (λ same. omega (arith, same, under))) refl
    by_place (inr over) =
        let same : lane ≡ lanes - 1 = omega arith in
        let bit = ap (bit_at (2 ^ (lanes - 1))) same ∙ bit_at-pow_same (lanes - 1) in
        rw (bit, eq-true (lane + 1) lanes (omega (arith, less, over))) refl

lane-same : (word other : Option (List Bool)) (closes others : List ℕ) → word ≡ other → closes ≡ others → ◌≡◌ {A = Lane} (record { word = word; closes = closes }) (record { word = other; closes = others })
lane-same word other closes others one two = cc

-- ---- no lane takes anything

module _ (least : ℕ) (items : List Item) where
  pub empty-left : (n : ℕ) → left_after 0 least (is_set 0) items n ≡ items
  empty-left zero = refl
  empty-left (suc n) = rw (none-set n) (empty-left n)

  pub empty-lane : (n : ℕ) → lane_after 0 least (is_set 0) items n ≡ no_lane
  empty-lane n = rw (none-set n) refl

-- ---- each allowed lane takes its own

laned-rest : (left : List Item) → rest_with (nat_lt 0 (length left)) true left ≡ behind_lane left
laned-rest [] = refl
laned-rest (Elem word ∷ more) = rw (lt-true 0 (suc (length more)) (omega arith)) refl
laned-rest (Close dim ∷ more) = rw (lt-true 0 (suc (length more)) (omega arith)) refl

laned-lane : (left : List Item) → lane_with (nat_lt 0 (length left)) true left ≡ lane_of left
laned-lane [] = refl
laned-lane (Elem word ∷ more) = rw (lt-true 0 (suc (length more)) (omega arith)) refl
laned-lane (Close dim ∷ more) = rw (lt-true 0 (suc (length more)) (omega arith)) refl

module _ (allowed : ℕ) (test : ℕ → Bool) (lanes : ℕ) (same : (lane : ℕ) → lane < lanes → is_set allowed lane ≡ test lane) where
  -- the lanes that are among these are counted by the ones
  pub place-ones : (n : ℕ) → n ≤ lanes → place_in test n ≡ ones_below allowed n
  place-ones zero le = refl
  place-ones (suc n) le = by_test (test n) (same n (omega arith)) (place-ones n (omega arith))
    where
      by_test : (one : Bool) → is_set allowed n ≡ one → place_in test n ≡ ones_below allowed n → (if one then 1 else 0) + place_in test n ≡ bit_at allowed n + ones_below allowed n
      by_test true is earlier = let bit : bit_at allowed n ≡ 1 = grind (arith, nat_tests) in omega (arith, bit, earlier)
      by_test false is earlier = let other : bit_at allowed n ≡ 1 → ⊥ = grind (arith, nat_tests) in omega (arith, other, bit_at-lt allowed n, earlier)

  module _ (items : List Item) where
    pub laned-left : (n : ℕ) → n ≤ lanes → left_after allowed 0 (is_set allowed) items n ≡ behind_lanes (place_in test n) items
    laned-left zero le = refl
    laned-left (suc n) le =
        ap (λ (left : List Item). rest_with (is_set allowed n && nat_lt 0 (length left)) (is_set allowed n) left) (laned-left n (omega arith)) ∙ by_test (test n) (same n (omega arith))
      where
        by_test : (one : Bool) → is_set allowed n ≡ one →
            rest_with (is_set allowed n && nat_lt 0 (length (behind_lanes (place_in test n) items))) (is_set allowed n) (behind_lanes (place_in test n) items)
            ≡ behind_lanes ((if one then 1 else 0) + place_in test n) items
        by_test true is =
            let next : 1 + place_in test n ≡ suc (place_in test n) = omega arith in
            rw (is, next) (laned-rest (behind_lanes (place_in test n) items) ∙ sym (lane-last (place_in test n) items))
        by_test false is =
            let stays : 0 + place_in test n ≡ place_in test n = omega arith in
            rw (is, stays) refl

    pub laned-lane-is : (n : ℕ) → n < lanes → lane_after allowed 0 (is_set allowed) items n ≡ (if test n then lane_of (behind_lanes (place_in test n) items) else no_lane)
    laned-lane-is n less =
        ap (λ (left : List Item). lane_with (is_set allowed n && nat_lt 0 (length left)) (is_set allowed n) left) (laned-left n (omega arith)) ∙ by_test (test n) (same n less)
      where
        by_test : (one : Bool) → is_set allowed n ≡ one →
            lane_with (is_set allowed n && nat_lt 0 (length (behind_lanes (place_in test n) items))) (is_set allowed n) (behind_lanes (place_in test n) items)
            ≡ (if one then lane_of (behind_lanes (place_in test n) items) else no_lane)
        by_test true is = rw is (laned-lane (behind_lanes (place_in test n) items))
        by_test false is = rw is refl

  -- ---- elements in the lowest lanes

  elements-within : (left : List Item) → elements_of left ≤ length left
  elements-within [] = omega arith
  elements-within (Elem word ∷ more) = omega (arith, elements-within more)
  elements-within (Close dim ∷ more) = omega arith

  behind-element : (left : List Item) (n : ℕ) → n < elements_of left → behind_word (drop n left) ≡ drop (suc n) left
  behind-element [] n less = absurd (omega (arith, less))
  behind-element (Elem word ∷ more) zero less = refl
  behind-element (Elem word ∷ more) (suc n) less = behind-element more n (omega (arith, less))
  behind-element (Close dim ∷ more) n less = absurd (omega (arith, less))

  module _ (items : List Item) (k : ℕ) (few : k ≤ elements_of items) (least : ℕ) (least_is : least ≡ length items - k) (ends : ℕ → Bool) (low : (lane : ℕ) → lane + 1 < lanes → ends lane ≡ false) where
    abbrev taken_at : ℕ → ℕ
    taken_at n = min (place_in test n) k

    abbrev takes : ℕ → Bool
    takes n = test n && nat_lt (place_in test n) k

    -- the items behind the element of a lane
    taken-step : (n : ℕ) → behind_taken (takes n) (drop (taken_at n) items) ≡ drop (taken_at (suc n)) items
    taken-step n = by_test (test n)
      where
        by_place : (place_in test n < k) ⊎ (k ≤ place_in test n) → behind_taken (nat_lt (place_in test n) k) (drop (taken_at n) items) ≡ drop (min (1 + place_in test n) k) items
        by_place (inl less) =
            let here : min (place_in test n) k ≡ place_in test n = omega arith in
            let next : min (1 + place_in test n) k ≡ suc (place_in test n) = omega arith in
            rw (lt-true (place_in test n) k less, here, next) (behind-element items (place_in test n) (omega (arith, less, few)))
        by_place (inr more) =
            let here : min (place_in test n) k ≡ k = omega arith in
            let next : min (1 + place_in test n) k ≡ k = omega arith in
            rw (lt-false (place_in test n) k more, here, next) refl

        by_test : (one : Bool) → behind_taken (one && nat_lt (place_in test n) k) (drop (taken_at n) items) ≡ drop (min ((if one then 1 else 0) + place_in test n) k) items
        by_test true = by_place (cases_lt (place_in test n) k)
        by_test false = ap (λ (m : ℕ). drop (min m k) items) (let e : place_in test n ≡ 0 + place_in test n = omega arith in e)

    takes-is : (n : ℕ) → n < lanes → takes_at allowed least n (drop (taken_at n) items) ≡ takes n
    takes-is n less = ap (λ (b : Bool). b && nat_lt least (length (drop (taken_at n) items))) (same n less) ∙ ap (λ (b : Bool). test n && b) (by_place (cases_lt (place_in test n) k))
      where
        by_place : (place_in test n < k) ⊎ (k ≤ place_in test n) → nat_lt least (length (drop (taken_at n) items)) ≡ nat_lt (place_in test n) k
        by_place (inl under) =
            let long = length-drop (min (place_in test n) k) items in
            let within = elements-within items in
            let l : least < length (drop (min (place_in test n) k) items) = omega (arith, long, within, few, under, least_is) in
            lt-true least (length (drop (taken_at n) items)) l ∙ sym (lt-true (place_in test n) k under)
        by_place (inr over) =
            let long = length-drop (min (place_in test n) k) items in
            let l : length (drop (min (place_in test n) k) items) ≤ least = omega (arith, long, over, least_is) in
            lt-false least (length (drop (taken_at n) items)) l ∙ sym (lt-false (place_in test n) k over)

    rest-step : (n : ℕ) → n < lanes → left_after allowed least ends items n ≡ drop (taken_at n) items →
        left_after allowed least ends items (suc n) ≡ (if ends n then behind_run 0 (drop (taken_at (suc n)) items) else drop (taken_at (suc n)) items)
    rest-step n less is =
        ap (λ (left : List Item). rest_with (takes_at allowed least n left) (ends n) left) is
        ∙ ap (λ (b : Bool). rest_with b (ends n) (drop (taken_at n) items)) (takes-is n less)
        ∙ ap (λ (left : List Item). if ends n then behind_run 0 left else left) (taken-step n)

    left-is : (n : ℕ) → n < lanes → left_after allowed least ends items n ≡ drop (taken_at n) items
    left-is zero less = ap (λ (m : ℕ). drop m items) (let e : 0 ≡ min 0 k = omega arith in e)
    left-is (suc n) less =
        rest-step n (omega arith) (left-is n (omega arith)) ∙ ap (λ (b : Bool). if b then behind_run 0 (drop (taken_at (suc n)) items) else drop (taken_at (suc n)) items) (low n (omega arith))

    pub rest-is : 1 ≤ lanes → k ≤ place_in test lanes → left_after allowed least ends items lanes ≡ (if ends (lanes - 1) then behind_run 0 (drop k items) else drop k items)
    rest-is some fits =
        let e : lanes ≡ suc (lanes - 1) = omega arith in
        let all : min (place_in test (suc (lanes - 1))) k ≡ k = ap (λ (n : ℕ). min (place_in test n) k) (sym e) ∙ omega (arith, fits) in
        ap (left_after allowed least ends items) e ∙ rest-step (lanes - 1) (omega arith) (left-is (lanes - 1) (omega arith)) ∙ ap (λ (m : ℕ). if ends (lanes - 1) then behind_run 0 (drop m items) else drop m items) all

    word-is : (n : ℕ) → taken_word (takes n) (drop (taken_at n) items) ≡ (if takes n then first_word (drop (place_in test n) items) else None)
    word-is n = by_test (takes n) refl
      where
        by_test : (one : Bool) → takes n ≡ one → taken_word one (drop (taken_at n) items) ≡ (if one then first_word (drop (place_in test n) items) else None)
        by_test true is = let less : place_in test n < k = grind (arith, nat_tests) in ap (λ (m : ℕ). first_word (drop m items)) (let e : min (place_in test n) k ≡ place_in test n = omega arith in e)
        by_test false is = refl

    pub lane-is : (n : ℕ) → n < lanes → lane_after allowed least ends items n ≡ record {
      word = if takes n then first_word (drop (place_in test n) items) else None;
      closes = if ends n then run_from 0 (drop (taken_at (suc n)) items) else [];
    }
    lane-is n less =
        ap (λ (left : List Item). lane_with (takes_at allowed least n left) (ends n) left) (left-is n less)
        ∙ ap (λ (b : Bool). lane_with b (ends n) (drop (taken_at n) items)) (takes-is n less)
        ∙ lane-same _ _ _ _ (word-is n) (ap (λ (left : List Item). if ends n then run_from 0 left else []) (taken-step n))

-- ---- what a wish takes, by the three ways

module _ (p : Parameters) (some : 1 ≤ p.lanes) (wish : Wish) (items : List Item) (place : ℕ) (within : place ≤ length items) (way : Way) where
  pub meets-empty : is_empty_wish p wish ≡ true → way.allowed ≡ 0 → way.ends ≡ 0 → way.stop ≡ place → Meets p wish items place way
  meets-empty is allowed ends stop = record {
    stop = omega (arith, stop, within);
    lanes = λ lane less. rw (is, allowed, ends) (empty-lane (length items - way.stop) (drop place items) lane);
    rest = rw (is, allowed, ends) (empty-left (length items - way.stop) (drop place items) p.lanes);
    packed = λ packed. rw (is, ends, stop) refl;
  }

  module _ (full : is_empty_wish p wish ≡ false) (allows : Allows p (mask_of p wish) way.allowed) where
    pub meets-laned : (wish.laned && (number_of p.level == 8)) ≡ true → way.ends ≡ way.allowed → way.stop ≡ length items → way.is_packed ≡ false → Meets p wish items place way
    meets-laned is ends stop loose =
        let none : length items - way.stop ≡ 0 = omega (arith, stop) in
        record {
          stop = omega (arith, stop);
          lanes = λ lane less. rw (full, is, ends, none) (laned-lane-is way.allowed (is_allowed p (mask_of p wish)) p.lanes allows.each (drop place items) lane less);
          rest = rw (full, is, ends, none) (laned-left way.allowed (is_allowed p (mask_of p wish)) p.lanes allows.each (drop place items) p.lanes (omega arith));
          packed = λ packed. absurd (let no : true ≡ false = sym packed ∙ loose in cc);
        }

    abbrev test : ℕ → Bool
    test = is_allowed p (mask_of p wish)

    abbrev left : List Item
    left = drop place items

    module _ (is : (wish.laned && (number_of p.level == 8)) ≡ false) (packed : IsPackedWay p wish way.allowed items place way) where
      count-is : packed.count ≡ count_of p test left
      count-is =
          packed.counted.is ∙ ap (λ (m : ℕ). if nat_le (elements_of left) m then elements_of left else m) (sym (place-ones way.allowed test p.lanes allows.each p.lanes (omega arith)))

      few : count_of p test left ≤ elements_of left
      few = (count-fits (elements_of left) (place_in test p.lanes)).0

      fits : count_of p test left ≤ place_in test p.lanes
      fits = (count-fits (elements_of left) (place_in test p.lanes)).1

      least-is : length items - way.stop ≡ length left - count_of p test left
      least-is = let long = length-drop place items in let c = count-is in omega (arith, long, c, packed.stop)

      abbrev stays : Bool
      stays = leaves p wish (count_of p test left)

      ends-are : (lane : ℕ) → lane < p.lanes → is_set way.ends lane ≡ (if stays then false else lane + 1 == p.lanes)
      ends-are lane less =
          ap (λ (e : ℕ). is_set e lane) (packed.ends ∙ ap (λ (c : ℕ). if leaves p wish c then 0 else 2 ^ (p.lanes - 1)) count-is) ∙ by_test stays
        where
          by_test : (one : Bool) → is_set (if one then 0 else 2 ^ (p.lanes - 1)) lane ≡ (if one then false else lane + 1 == p.lanes)
          by_test true = none-set lane
          by_test false = last-set p.lanes lane some less

      low : (lane : ℕ) → lane + 1 < p.lanes → is_set way.ends lane ≡ false
      low lane less = ends-are lane (omega arith) ∙ by_test stays
        where
          by_test : (one : Bool) → (if one then false else lane + 1 == p.lanes) ≡ false
          by_test true = refl
          by_test false = eq-false (lane + 1) p.lanes (λ same. omega (arith, same, less))

      abbrev filled : Load
      filled = filled_load p test wish (count_of p test left) left

      lanes-are : (lane : ℕ) → lane < p.lanes → lanes_on way items place lane ≡ filled.lanes lane
      lanes-are lane less =
          lane-is way.allowed test p.lanes allows.each left (count_of p test left) few (length items - way.stop) least-is (is_set way.ends) low lane less
          ∙ ap (λ (b : Bool). with_closes (if b then run_from 0 (drop (min (place_in test (suc lane)) (count_of p test left)) left) else [])) (ends-are lane less)
          ∙ by_test stays
        where
          with_closes : List ℕ → Lane
          with_closes closes = record { word = if test lane && nat_lt (place_in test lane) (count_of p test left) then first_word (drop (place_in test lane) left) else None; closes = closes }

          same-if : (one : Bool) (closes : List ℕ) → closes ≡ (if one then closes else closes)
          same-if true closes = refl
          same-if false closes = refl

          by_last : (one : Bool) → (lane + 1 == p.lanes) ≡ one →
              (if one then run_from 0 (drop (min (place_in test (suc lane)) (count_of p test left)) left) else []) ≡ (if one then run_of (drop (count_of p test left) left) else [])
          by_last true last =
              let e : suc lane ≡ p.lanes = grind (arith, nat_tests) in
              let f = fits in
              ap (λ (m : ℕ). run_from 0 (drop m left)) (ap (λ (n : ℕ). min (place_in test n) (count_of p test left)) e ∙ omega (arith, f))
          by_last false last = refl

          by_test : (one : Bool) → with_closes (if (if one then false else lane + 1 == p.lanes) then run_from 0 (drop (min (place_in test (suc lane)) (count_of p test left)) left) else []) ≡
              (if one then packed_load p test (count_of p test left) [] left (drop (count_of p test left) left)
              else packed_load p test (count_of p test left) (run_of (drop (count_of p test left) left)) left (behind_run 0 (drop (count_of p test left) left))).lanes lane
          by_test true = ap with_closes (same-if (lane + 1 == p.lanes) [])
          by_test false = ap with_closes (by_last (lane + 1 == p.lanes) refl)

      rest-are : left_on way items place p.lanes ≡ filled.rest
      rest-are =
          rest-is way.allowed test p.lanes allows.each left (count_of p test left) few (length items - way.stop) least-is (is_set way.ends) low some fits
          ∙ ap (λ (b : Bool). if b then behind_run 0 (drop (count_of p test left) left) else drop (count_of p test left) left) (ends-are (p.lanes - 1) (omega arith))
          ∙ by_test stays
        where
          last : (p.lanes - 1 + 1 == p.lanes) ≡ true
          last = eq-true (p.lanes - 1 + 1) p.lanes (omega (arith, some))

          by_test : (one : Bool) → (if (if one then false else p.lanes - 1 + 1 == p.lanes) then behind_run 0 (drop (count_of p test left) left) else drop (count_of p test left) left) ≡
              (if one then packed_load p test (count_of p test left) [] left (drop (count_of p test left) left)
              else packed_load p test (count_of p test left) (run_of (drop (count_of p test left) left)) left (behind_run 0 (drop (count_of p test left) left))).rest
          by_test true = refl
          by_test false = ap (λ (b : Bool). if b then behind_run 0 (drop (count_of p test left) left) else drop (count_of p test left) left) last

      passed-are : left_on way items place p.lanes ≡ left_by way items
      passed-are =
          rest-is way.allowed test p.lanes allows.each left (count_of p test left) few (length items - way.stop) least-is (is_set way.ends) low some fits ∙ by_test stays refl
        where
          behind-is : drop (count_of p test left) left ≡ drop way.stop items
          behind-is = drop-drop (count_of p test left) place items ∙ ap (λ (n : ℕ). drop n items) (ap (λ (c : ℕ). place + c) (sym count-is) ∙ sym packed.stop)

          ends-is : (one : Bool) → stays ≡ one → way.ends ≡ (if one then 0 else 2 ^ (p.lanes - 1))
          ends-is one is = packed.ends ∙ ap (λ (c : ℕ). if leaves p wish c then 0 else 2 ^ (p.lanes - 1)) count-is ∙ ap (λ (b : Bool). if b then 0 else 2 ^ (p.lanes - 1)) is

          by_test : (one : Bool) → stays ≡ one → (if is_set way.ends (p.lanes - 1) then behind_run 0 (drop (count_of p test left) left) else drop (count_of p test left) left) ≡ left_by way items
          by_test true is = rw (ends-is true is, none-set (p.lanes - 1)) behind-is
          by_test false is =
              let set : is_set (2 ^ (p.lanes - 1)) (p.lanes - 1) ≡ true = last-set p.lanes (p.lanes - 1) some (omega (arith, some)) ∙ eq-true (p.lanes - 1 + 1) p.lanes (omega (arith, some)) in
              let other : (2 ^ (p.lanes - 1) == 0) ≡ false = eq-false (2 ^ (p.lanes - 1)) 0 (λ e. omega (arith, e, pow_pos (p.lanes - 1))) in
              rw (ends-is false is, set, other) (ap (behind_run 0) behind-is)

      pub meets-packed : Meets p wish items place way
      meets-packed = record {
        stop = let c = packed.counted.within in omega (arith, packed.stop, c);
        lanes = λ lane less. rw (full, is) (lanes-are lane less);
        rest = rw (full, is) rest-are;
        packed = λ packed. sym passed-are ∙ rw (full, is) rest-are;
      }
