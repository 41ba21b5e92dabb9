-- One list is planned, and it is no longer than the items and wishes.
use Rattle.std.proofs.Common.{◌≡◌, ◌∙◌, ◌⊎◌, inl, inr, ℕ, zero, suc, ◌+◌, ◌-◌, ◌^◌, ◌<◌, ◌≤◌, Bool, true, false, ◌&&◌, ◌==◌, nat_le, if◌then◌else◌, List, [], ◌∷◌, length, drop, refl, sym, ap, arith}
use Rattle.std.specs.Int.{bit_at}
use Rattle.std.proofs.lemmas.Bool.{cases_lt}
use Rattle.std.proofs.lemmas.Bool.Decides.{nat_tests}
use Rattle.std.proofs.lemmas.List.{length-drop}
use Rattle.std.proofs.lemmas.Nat.Bits.{bit_at-zero, bit_at-lt, bit_at_ones, same_from_bits_below}
use Rattle.std.proofs.Math.Pow.{ones_lt}
use Rattle.tydi_base.specs.Level.{number_of}
use Rattle.physical_stream.specs.Params.{Parameters}
use Rattle.physical_stream.specs.declared.item.Item.{Item}
use Rattle.physical_stream.specs.declared.item.Item.TheVariants.{Elem, Close}
use Rattle.physical_stream.specs.declared.transfer.Transfer.{Transfer}
use Rattle.scheduler.specs.Lanes.{transfer_of}
use Rattle.scheduler.specs.Planned.{Planned, plan_on, plan_of, MasksFit, first_wish, first_user, behind, run_of, behind_run, elements_of, is_allowed, lowest_one, ones_below, place_in, behind_lane, behind_lanes, laned_load, packed_load, count_of, leaves, filled_load, is_empty_wish, mask_of, load_of}
use Rattle.plan_text.specs.declared.plan.Wish.{Wish}

-- ---- one list

pub planned_once : (p : Parameters) (wishes : List Wish) (users : List (List Bool)) (items : List Item) (ts us : List Transfer) → Planned p wishes users items ts → Planned p wishes users items us → ts ≡ us
planned_once p wishes users items [] [] one other = refl
planned_once p wishes users items [] (u ∷ us) one other = absurd (other.0 one)
planned_once p wishes users items (t ∷ ts) [] one other = absurd (one.0 other)
planned_once p wishes users items (t ∷ ts) (u ∷ us) one other =
    ap (λ (x : Transfer). x ∷ ts) (one.1 ∙ sym other.1)
    ∙ ap (λ (l : List Transfer). u ∷ l) (planned_once p (behind wishes) (behind users) (load_of p (first_wish p wishes) items).rest ts us one.2 other.2)

-- ---- some lane is allowed

ones-none : (mask n : ℕ) → ones_below mask n ≡ 0 → (i : ℕ) → i < n → bit_at mask i ≡ 0
ones-none mask zero none i less = absurd (omega (arith, less))
ones-none mask (suc n) none i less = by_place (ones-none mask n (omega (arith, none))) (cases_lt i n)
  where
    by_place : ((j : ℕ) → j < n → bit_at mask j ≡ 0) → (i < n) ⊎ (n ≤ i) → bit_at mask i ≡ 0
    by_place earlier (inl l) = earlier i l
    by_place earlier (inr m) = let same : i ≡ n = omega arith in ap (bit_at mask) same ∙ omega (arith, none)

ones-some : (mask n : ℕ) → 0 < mask → mask < 2 ^ n → 0 < ones_below mask n
ones-some mask n some fits = by_count (ones_below mask n) refl
  where
    by_count : (count : ℕ) → ones_below mask n ≡ count → 0 < count
    by_count zero is = let none : mask ≡ 0 = same_from_bits_below n mask 0 fits (omega (arith, fits)) (λ i less. ones-none mask n is i less ∙ sym (bit_at-zero i)) in absurd (omega (arith, none, some))
    by_count (suc count) is = omega arith

one-in : (mask n : ℕ) → 0 < ones_below mask n → (i : ℕ) × ((i < n) × (bit_at mask i ≡ 1))
one-in mask zero some = absurd (omega (arith, some))
one-in mask (suc n) some = by_bit (one-in mask n) (bit_at mask n) refl
  where
    by_bit : (0 < ones_below mask n → (i : ℕ) × ((i < n) × (bit_at mask i ≡ 1))) → (bit : ℕ) → bit_at mask n ≡ bit → (i : ℕ) × ((i < suc n) × (bit_at mask i ≡ 1))
    by_bit earlier zero is = let e = earlier (omega (arith, some, is)) in (e.0, (let less = e.1.0 in omega (arith, less), e.1.1))
    by_bit earlier (suc more) is = (n, (omega arith, omega (arith, is, bit_at-lt mask n)))

lowest-within : (mask n found most : ℕ) → n ≤ most → found < most → lowest_one mask n found < most
lowest-within mask zero found most le less = less
lowest-within mask (suc n) found most le less = by_test (λ x l. lowest-within mask n x most (omega (arith, le)) l) (bit_at mask n == 1)
  where
    by_test : ((x : ℕ) → x < most → lowest_one mask n x < most) → (test : Bool) → lowest_one mask n (if test then n else found) < most
    by_test earlier true = earlier n (omega arith)
    by_test earlier false = earlier found less

abbrev IsAllowedBelow : (ℕ → Bool) → ℕ → Type 0
IsAllowedBelow allowed n = (i : ℕ) × ((i < n) × (allowed i ≡ true))

some-allowed : (p : Parameters) (mask : ℕ) → 1 ≤ p.lanes → 0 < mask → mask < 2 ^ p.lanes → IsAllowedBelow (is_allowed p mask) p.lanes
some-allowed p mask some one fits = by_four (nat_le (number_of p.level) 4) (number_of p.level == 5) (number_of p.level == 6) refl refl refl
  where
    ones : 0 < ones_below mask p.lanes
    ones = ones-some mask p.lanes one fits

    by_four : (four five six : Bool) → nat_le (number_of p.level) 4 ≡ four → (number_of p.level == 5) ≡ five → (number_of p.level == 6) ≡ six → IsAllowedBelow (is_allowed p mask) p.lanes
    by_four true five six is _ _ = (0, (some, rw is refl))
    by_four false true six is is5 _ = (0, (some, rw (is, is5) (let o = ones in grind (arith, nat_tests))))
    by_four false false true is is5 is6 = (lowest_one mask p.lanes 0, (lowest-within mask p.lanes 0 p.lanes (omega arith) some, rw (is, is5, is6) (let o = ones in grind (arith, nat_tests))))
    by_four false false false is is5 is6 = let e = one-in mask p.lanes ones in (e.0, (e.1.0, rw (is, is5, is6) (let bit = e.1.1 in grind (arith, nat_tests))))

place-some : (allowed : ℕ → Bool) (n i : ℕ) → i < n → allowed i ≡ true → 1 ≤ place_in allowed n
place-some allowed zero i less sure = absurd (omega (arith, less))
place-some allowed (suc n) i less sure = by_place (λ l. place-some allowed n i l sure) (cases_lt i n)
  where
    by_place : (i < n → 1 ≤ place_in allowed n) → (i < n) ⊎ (n ≤ i) → 1 ≤ (if allowed n then 1 else 0) + place_in allowed n
    by_place earlier (inl l) = omega (arith, earlier l)
    by_place earlier (inr m) = let here : allowed n ≡ true = ap allowed (let same : n ≡ i = omega arith in same) ∙ sure in rw here (omega arith)

-- ---- fewer items are left

run-shorter : (least : ℕ) (items : List Item) → length (behind_run least items) ≤ length items
run-shorter least [] = omega arith
run-shorter least (Elem word ∷ more) = omega arith
run-shorter least (Close dim ∷ more) = by_test (run-shorter (suc dim) more) (nat_le least dim)
  where
    by_test : length (behind_run (suc dim) more) ≤ length more → (test : Bool) → length (if test then behind_run (suc dim) more else Close dim ∷ more) ≤ suc (length more)
    by_test earlier true = omega (arith, earlier)
    by_test earlier false = omega arith

pub run-zero : (dim : ℕ) (more : List Item) → behind_run 0 (Close dim ∷ more) ≡ behind_run (suc dim) more
run-zero dim more = let all : nat_le 0 dim ≡ true = grind (arith, nat_tests) in rw all refl

lane-shorter : (items : List Item) → length (behind_lane items) ≤ length items - 1
lane-shorter [] = omega arith
lane-shorter (Elem word ∷ more) = omega (arith, run-shorter 0 more)
lane-shorter (Close dim ∷ more) = omega (arith, ap length (run-zero dim more), run-shorter (suc dim) more)

lanes-shorter : (n : ℕ) (items : List Item) → length (behind_lanes n items) ≤ length items
lanes-shorter zero items = omega arith
lanes-shorter (suc n) items = omega (arith, lanes-shorter n (behind_lane items), lane-shorter items)

laned-shorter : (n : ℕ) (item : Item) (items : List Item) → 1 ≤ n → length (behind_lanes n (item ∷ items)) < suc (length items)
laned-shorter zero item items some = absurd (omega (arith, some))
laned-shorter (suc n) item items some = omega (arith, lanes-shorter n (behind_lane (item ∷ items)), lane-shorter (item ∷ items))

filled-shorter : (p : Parameters) (allowed : ℕ → Bool) (wish : Wish) (item : Item) (items : List Item) → 1 ≤ place_in allowed p.lanes →
    length (filled_load p allowed wish (count_of p allowed (item ∷ items)) (item ∷ items)).rest < suc (length items)
filled-shorter p allowed wish (Elem word) items some = by_test (leaves p wish (count_of p allowed (Elem word ∷ items)))
  where
    k : ℕ
    k = count_of p allowed (Elem word ∷ items)

    most : (a b : ℕ) → 1 ≤ b → 1 ≤ (if nat_le (suc a) b then suc a else b)
    most a b s = by_le (nat_le (suc a) b)
      where
        by_le : (test : Bool) → 1 ≤ (if test then suc a else b)
        by_le true = omega arith
        by_le false = s

    one : 1 ≤ count_of p allowed (Elem word ∷ items)
    one = most (elements_of items) (place_in allowed p.lanes) some

    by_test : (test : Bool) → length (if test then packed_load p allowed (count_of p allowed (Elem word ∷ items)) [] (Elem word ∷ items) (drop (count_of p allowed (Elem word ∷ items)) (Elem word ∷ items))
        else packed_load p allowed (count_of p allowed (Elem word ∷ items)) (run_of (drop (count_of p allowed (Elem word ∷ items)) (Elem word ∷ items))) (Elem word ∷ items) (behind_run 0 (drop (count_of p allowed (Elem word ∷ items)) (Elem word ∷ items)))).rest < suc (length items)
    by_test true = omega (arith, one, length-drop (count_of p allowed (Elem word ∷ items)) (Elem word ∷ items))
    by_test false = omega (arith, one, length-drop (count_of p allowed (Elem word ∷ items)) (Elem word ∷ items), run-shorter 0 (drop (count_of p allowed (Elem word ∷ items)) (Elem word ∷ items)))
filled-shorter p allowed wish (Close dim) items some =
    let all : nat_le 0 (place_in allowed p.lanes) ≡ true = grind (arith, nat_tests) in
    let none : count_of p allowed (Close dim ∷ items) ≡ 0 = rw all refl in
    let stays : leaves p wish 0 ≡ false = grind (arith, nat_tests) in
    rw (none, stays) (omega (arith, ap length (run-zero dim items), run-shorter (suc dim) items))

-- a wish that is no empty one takes an item
pub takes-some : (p : Parameters) (wish : Wish) (item : Item) (items : List Item) → 1 ≤ p.lanes → wish.mask < 2 ^ p.lanes → is_empty_wish p wish ≡ false →
    length (load_of p wish (item ∷ items)).rest < suc (length items)
takes-some p wish item items some fits not_empty = rw not_empty (by_laned (wish.laned && (number_of p.level == 8)))
  where
    masked : (0 < mask_of p wish) × (mask_of p wish < 2 ^ p.lanes)
    masked = by_zero (wish.mask == 0) refl
      where
        by_zero : (test : Bool) → (wish.mask == 0) ≡ test → (0 < (if test then 2 ^ p.lanes - 1 else wish.mask)) × ((if test then 2 ^ p.lanes - 1 else wish.mask) < 2 ^ p.lanes)
        by_zero true is = (full p.lanes some, ones_lt p.lanes)
          where
            full : (n : ℕ) → 1 ≤ n → 0 < 2 ^ n - 1
            full n s = by_bit (2 ^ n - 1) refl
              where
                by_bit : (x : ℕ) → 2 ^ n - 1 ≡ x → 0 < x
                by_bit zero e = let bit = bit_at_ones n 0 (omega (arith, s)) in let none = bit_at-zero 0 in let clash : 0 ≡ 1 = sym none ∙ sym (ap (λ (y : ℕ). bit_at y 0) e) ∙ bit in omega (arith, clash)
                by_bit (suc x) e = omega arith
        by_zero false is = (grind (arith, nat_tests), fits)

    place : 1 ≤ place_in (is_allowed p (mask_of p wish)) p.lanes
    place = let e = some-allowed p (mask_of p wish) some masked.0 masked.1 in place-some (is_allowed p (mask_of p wish)) p.lanes e.0 e.1.0 e.1.1

    by_laned : (test : Bool) →
        length (if test then laned_load p (is_allowed p (mask_of p wish)) (item ∷ items)
        else filled_load p (is_allowed p (mask_of p wish)) wish (count_of p (is_allowed p (mask_of p wish)) (item ∷ items)) (item ∷ items)).rest < suc (length items)
    by_laned true = laned-shorter (place_in (is_allowed p (mask_of p wish)) p.lanes) item items place
    by_laned false = filled-shorter p (is_allowed p (mask_of p wish)) wish item items place

-- a wish takes an item, or it is an empty one
shorter : (p : Parameters) (wish : Wish) (item : Item) (items : List Item) → 1 ≤ p.lanes → wish.mask < 2 ^ p.lanes →
    (length (load_of p wish (item ∷ items)).rest < suc (length items)) ⊎ ((wish.mask ≡ 0) × (length (load_of p wish (item ∷ items)).rest ≡ suc (length items)))
shorter p wish item items some fits = by_empty (is_empty_wish p wish) refl
  where
    by_empty : (test : Bool) → is_empty_wish p wish ≡ test → (length (load_of p wish (item ∷ items)).rest < suc (length items)) ⊎ ((wish.mask ≡ 0) × (length (load_of p wish (item ∷ items)).rest ≡ suc (length items)))
    by_empty true is = inr (grind (arith, nat_tests), rw is refl)
    by_empty false is = inl (takes-some p wish item items some fits is)

full-mask : (n : ℕ) → 1 ≤ n → 2 ^ n - 1 ≡ 0 → ⊥
full-mask n some e = let bit = bit_at_ones n 0 (omega (arith, some)) in let clash : 0 ≡ 1 = sym (bit_at-zero 0) ∙ sym (ap (λ (y : ℕ). bit_at y 0) e) ∙ bit in omega (arith, clash)

-- items and wishes together get fewer
measure : (p : Parameters) (wishes : List Wish) (item : Item) (items : List Item) → 1 ≤ p.lanes → MasksFit p wishes →
    length (load_of p (first_wish p wishes) (item ∷ items)).rest + length (behind wishes) < suc (length items) + length wishes
measure p [] item items some fits = by_shorter (shorter p (first_wish p []) item items some (ones_lt p.lanes))
  where
    by_shorter : (length (load_of p (first_wish p []) (item ∷ items)).rest < suc (length items)) ⊎ ((2 ^ p.lanes - 1 ≡ 0) × (length (load_of p (first_wish p []) (item ∷ items)).rest ≡ suc (length items))) →
        length (load_of p (first_wish p []) (item ∷ items)).rest + 0 < suc (length items) + 0
    by_shorter (inl less) = omega (arith, less)
    by_shorter (inr none) = absurd (full-mask p.lanes some none.0)
measure p (wish ∷ more) item items some fits = by_shorter (shorter p wish item items some fits.0)
  where
    by_shorter : (length (load_of p wish (item ∷ items)).rest < suc (length items)) ⊎ ((wish.mask ≡ 0) × (length (load_of p wish (item ∷ items)).rest ≡ suc (length items))) →
        length (load_of p wish (item ∷ items)).rest + length more < suc (length items) + suc (length more)
    by_shorter (inl less) = omega (arith, less)
    by_shorter (inr none) = omega (arith, none.1)

pub fits-behind : (p : Parameters) (wishes : List Wish) → MasksFit p wishes → MasksFit p (behind wishes)
fits-behind p [] fits = tt
fits-behind p (wish ∷ more) fits = fits.1

-- the list that is made is planned
pub planned_some : (fuel : ℕ) (p : Parameters) (wishes : List Wish) (users : List (List Bool)) (items : List Item) → 1 ≤ p.lanes → MasksFit p wishes → length items + length wishes ≤ fuel →
    Planned p wishes users items (plan_on fuel p wishes users items)
planned_some zero p wishes users [] some fits enough = refl
planned_some zero p wishes users (item ∷ items) some fits enough = absurd (omega (arith, enough))
planned_some (suc fuel) p wishes users [] some fits enough = refl
planned_some (suc fuel) p wishes users (item ∷ items) some fits enough =
    let less = measure p wishes item items some fits in
    (λ is. cc, refl, planned_some fuel p (behind wishes) (behind users) (load_of p (first_wish p wishes) (item ∷ items)).rest some (fits-behind p wishes fits) (omega (arith, less, enough)))

pub plan-length : (fuel : ℕ) (p : Parameters) (wishes : List Wish) (users : List (List Bool)) (items : List Item) → length (plan_on fuel p wishes users items) ≤ fuel
plan-length zero p wishes users items = omega arith
plan-length (suc fuel) p wishes users [] = omega arith
plan-length (suc fuel) p wishes users (item ∷ items) = omega (arith, plan-length fuel p (behind wishes) (behind users) (load_of p (first_wish p wishes) (item ∷ items)).rest)

-- at most as many transfers as items and wishes
pub planned_few : (p : Parameters) (wishes : List Wish) (users : List (List Bool)) (items : List Item) (ts : List Transfer) → 1 ≤ p.lanes → MasksFit p wishes → Planned p wishes users items ts →
    length ts ≤ length items + length wishes
planned_few p wishes users items ts some fits planned =
    let fuel = length items + length wishes in
    let same : ts ≡ plan_on (length items + length wishes) p wishes users items =
    planned_once p wishes users items ts (plan_on (length items + length wishes) p wishes users items) planned (planned_some (length items + length wishes) p wishes users items some fits (omega arith)) in
    omega (arith, ap length same, plan-length (length items + length wishes) p wishes users items)

-- with enough fuel the fuel says nothing
pub enough-fuel : (p : Parameters) (wishes : List Wish) (users : List (List Bool)) (items : List Item) (one other : ℕ) → 1 ≤ p.lanes → MasksFit p wishes → length items + length wishes ≤ one → length items + length wishes ≤ other →
    plan_on one p wishes users items ≡ plan_on other p wishes users items
enough-fuel p wishes users items one other some fits enough enough' =
    planned_once p wishes users items (plan_on one p wishes users items) (plan_on other p wishes users items) (planned_some one p wishes users items some fits enough) (planned_some other p wishes users items some fits enough')

-- one step: the first transfer is the one that meets the wish, and the rest is planned for what it leaves
pub plan_step : (p : Parameters) (wishes : List Wish) (users : List (List Bool)) (item : Item) (more : List Item) → 1 ≤ p.lanes → MasksFit p wishes →
    plan_of p wishes users (item ∷ more) ≡ transfer_of p (load_of p (first_wish p wishes) (item ∷ more)).lanes (first_user p users)
    ∷ plan_of p (behind wishes) (behind users) (load_of p (first_wish p wishes) (item ∷ more)).rest
plan_step p wishes users item more some fits =
    let e : suc (length more) + length wishes ≡ suc (length more + length wishes) = omega arith in
    ap (λ (n : ℕ). plan_on n p wishes users (item ∷ more)) e
    ∙ ap (λ (l : List Transfer). transfer_of p (load_of p (first_wish p wishes) (item ∷ more)).lanes (first_user p users) ∷ l)
    (enough-fuel p (behind wishes) (behind users) (load_of p (first_wish p wishes) (item ∷ more)).rest (length more + length wishes) _ some (fits-behind p wishes fits)
    (let less = measure p wishes item more some fits in omega (arith, less)) (omega arith))
