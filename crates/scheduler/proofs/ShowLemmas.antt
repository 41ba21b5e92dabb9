-- A stream can show what is planned.
use Rattle.std.proofs.Common.{◌≡◌, ◌∙◌, ◌⊎◌, inl, inr, ℕ, zero, suc, ◌-◌, ◌^◌, ◌<◌, ◌≤◌, Bool, true, false, nat_le, if◌then◌else◌, List, [], ◌∷◌, ◌++◌, length, map, Option, Some, None, is_some, refl, sym, ap, subst, arith}
use Rattle.std.specs.List.{All}
use Rattle.std.proofs.lemmas.List.Elements.{All-nil, All-cons}
use Rattle.std.proofs.lemmas.Bool.{cases_lt}
use Rattle.std.proofs.lemmas.Bool.Decides.{nat_tests}
use Rattle.std.proofs.lemmas.Nat.{pow_pos, or_lt}
use Rattle.std.proofs.Math.Pow.{ones_lt, pow-lt}
use Rattle.tydi_base.specs.Level.{number_of}
use Rattle.tydi_base.proofs.WidthLaws.{index_width-enough}
use Rattle.physical_stream.specs.Params.{Parameters}
use Rattle.physical_stream.specs.Items.{parts_below}
use Rattle.physical_stream.specs.Signals.{Fits, Shows, has_stai, has_endi, has_strb}
use Rattle.physical_stream.specs.declared.item.Item.{Item}
use Rattle.physical_stream.specs.declared.item.Item.TheVariants.{Close}
use Rattle.physical_stream.specs.declared.item.Tail.{Tail}
use Rattle.physical_stream.specs.declared.transfer.Transfer.{Transfer}
use Rattle.physical_stream.proofs.PartsLemmas.{length-parts_below}
use Rattle.scheduler.specs.Lanes.{Lane, word_or, is_among, lowest_active, highest_active, some_active, active_bits, strobe_of, transfer_of}
use Rattle.scheduler.specs.Planned.{Planned, MasksFit, first_wish, first_user, behind, is_empty_wish, load_of}
use Rattle.scheduler.specs.Laws.{UsersFit}
use Rattle.plan_text.specs.declared.plan.Wish.{Wish}
use Rattle.scheduler.proofs.PartLemmas.{Below, length-parts}
use Rattle.scheduler.proofs.CarryLemmas.{acts, AreLanes, item_for, carried}
use Rattle.scheduler.proofs.LoadLemmas.{IsTaken, taken_of, length-zeros}
use Rattle.scheduler.proofs.ObeyLemmas.{KeepsRules, in-order, each-none, no-start}
use Rattle.scheduler.proofs.KeepLemmas.{Goes, keeps_of}
use Rattle.scheduler.proofs.PlanLemmas.{takes-some, fits-behind}

active-lt : (lanes : ℕ → Lane) (n : ℕ) → active_bits lanes n < 2 ^ n
active-lt lanes zero = pow_pos 0
active-lt lanes (suc n) =
    or_lt (suc n) (active_bits lanes n) (if acts lanes n then 2 ^ n else 0) (omega (arith, active-lt lanes n, pow-lt {i = n} {j = suc n} (omega arith))) (by_test (acts lanes n))
  where
    by_test : (test : Bool) → (if test then 2 ^ n else 0) < 2 ^ suc n
    by_test true = pow-lt {i = n} {j = suc n} (omega arith)
    by_test false = pow_pos (suc n)

strobe-lt : (p : Parameters) (lanes : ℕ → Lane) → strobe_of p lanes < 2 ^ p.lanes
strobe-lt p lanes = by_level (nat_le 7 (number_of p.level))
  where
    by_some : (test : Bool) → (if test then 2 ^ p.lanes - 1 else 0) < 2 ^ p.lanes
    by_some true = ones_lt p.lanes
    by_some false = pow_pos p.lanes

    by_level : (test : Bool) → (if test then active_bits lanes p.lanes else (if some_active lanes p.lanes then 2 ^ p.lanes - 1 else 0)) < 2 ^ p.lanes
    by_level true = active-lt lanes p.lanes
    by_level false = by_some (some_active lanes p.lanes)

-- a transfer of such lanes fits
pub fits-of : (p : Parameters) (lanes : ℕ → Lane) (user : List Bool) → AreLanes p lanes → 1 ≤ p.lanes → length user ≡ p.user → Fits p (transfer_of p lanes user)
fits-of p lanes user are some wide =
    let order = in-order lanes p.lanes some (some_active lanes p.lanes) refl in
    let enough = index_width-enough p.lanes in
    record {
      content = length-parts (λ lane. word_or p.element (lanes lane).word) p.element p.lanes are.words;
      last = length-parts (λ lane. parts_below (λ d. is_among d (lanes lane).closes ∷ []) p.dims) p.dims p.lanes (λ j l. length-parts_below (λ d. is_among d (lanes j).closes ∷ []) p.dims (λ d m. refl));
      stai = omega (arith, order.0, order.1, enough);
      endi = omega (arith, order.1, enough);
      strb = strobe-lt p lanes;
      user = wide;
    }

-- absent signals stand at their defaults
module _ (p : Parameters) (lanes : ℕ → Lane) (user : List Bool) (are : AreLanes p lanes) (some : 1 ≤ p.lanes) (tail : Option Tail) (k : KeepsRules p tail lanes) where
  order : (lowest_active lanes p.lanes 0 ≤ highest_active lanes p.lanes (p.lanes - 1)) × (highest_active lanes p.lanes (p.lanes - 1) < p.lanes)
  order = in-order lanes p.lanes some (some_active lanes p.lanes) refl

  stai-default : has_stai p ≡ false → lowest_active lanes p.lanes 0 ≡ 0
  stai-default lacks = by_lanes (cases_lt 1 p.lanes)
    where
      by_start : (n : ℕ) → lowest_active lanes p.lanes 0 ≡ n → number_of p.level ≤ 5 → lowest_active lanes p.lanes 0 ≡ 0
      by_start zero is level = is
      by_start (suc n) is level = absurd (no-start p lanes user are some tail k level (omega (arith, is)))

      by_lanes : (1 < p.lanes) ⊎ (p.lanes ≤ 1) → lowest_active lanes p.lanes 0 ≡ 0
      by_lanes (inl more) = let level : number_of p.level ≤ 5 = grind (arith, nat_tests) in by_start (lowest_active lanes p.lanes 0) refl level
      by_lanes (inr one) = let o = order in omega (arith, o.0, o.1, one)

  endi-default : has_endi p ≡ false → highest_active lanes p.lanes (p.lanes - 1) ≡ p.lanes - 1
  endi-default lacks = by_lanes (cases_lt 1 p.lanes)
    where
      by_ends : p.dims ≡ 0 → (highest_active lanes p.lanes (p.lanes - 1) ≡ p.lanes - 1) ⊎ ((c : ℕ) × ((ds : List ℕ) × ((lanes (p.lanes - 1)).closes ≡ c ∷ ds))) → highest_active lanes p.lanes (p.lanes - 1) ≡ p.lanes - 1
      by_ends flat (inl is) = is
      by_ends flat (inr e) = let within : e.0 < p.dims = (subst (Below p.dims) e.1.1 (are.within (p.lanes - 1))).0 in absurd (omega (arith, within, flat))

      by_lanes : (1 < p.lanes) ⊎ (p.lanes ≤ 1) → highest_active lanes p.lanes (p.lanes - 1) ≡ p.lanes - 1
      by_lanes (inl more) = let level : number_of p.level ≤ 4 = grind (arith, nat_tests) in let flat : p.dims ≡ 0 = grind (arith, nat_tests) in by_ends flat (k.ends level)
      by_lanes (inr one) = let o = order in omega (arith, o.1, one)

  strb-default : (has_strb p ≡ false → some_active lanes p.lanes ≡ true) → has_strb p ≡ false → strobe_of p lanes ≡ 2 ^ p.lanes - 1
  strb-default acts_some lacks =
      let low : nat_le 7 (number_of p.level) ≡ false = grind (arith, nat_tests) in
      ap (λ (b : Bool). if b then active_bits lanes p.lanes else (if some_active lanes p.lanes then 2 ^ p.lanes - 1 else 0)) low
      ∙ ap (λ (b : Bool). if b then 2 ^ p.lanes - 1 else 0) (acts_some lacks)

  pub shows-of : length user ≡ p.user → (has_strb p ≡ false → some_active lanes p.lanes ≡ true) → Shows p (transfer_of p lanes user)
  shows-of wide acts_some = record {
    fits = fits-of p lanes user are some wide;
    defaults = record { stai = stai-default; endi = endi-default; strb = strb-default acts_some };
  }

-- ---- some lane is active where there is no strobe

parts-none : (f : ℕ → List Item) (n : ℕ) → ((i : ℕ) → i < n → f i ≡ []) → parts_below f n ≡ []
parts-none f zero none = refl
parts-none f (suc n) none = rw (parts-none f n (λ i less. none i (omega arith)), none n (omega arith)) refl

carried-none : (lane : Lane) → is_some lane.word ≡ false → Below 0 lane.closes → carried lane ≡ []
carried-none lane inactive below = by_word lane.word inactive lane.closes below
  where
    by_word : (word : Option (List Bool)) → is_some word ≡ false → (closes : List ℕ) → Below 0 closes → item_for word ++ map Close closes ≡ []
    by_word None inert [] flat = refl
    by_word None inert (c ∷ cs) flat = let less = flat.0 in absurd (omega (arith, less))
    by_word (Some w) inert closes flat = cc

acts-some : (p : Parameters) (wish : Wish) (item : Item) (more : List Item) → 1 ≤ p.lanes → wish.mask < 2 ^ p.lanes → IsTaken p (item ∷ more) (load_of p wish (item ∷ more)) → has_strb p ≡ false →
    some_active (load_of p wish (item ∷ more)).lanes p.lanes ≡ true
acts-some p wish item more some fits taken lacks = by_test (some_active (load_of p wish (item ∷ more)).lanes p.lanes) refl
  where
    flat : p.dims ≡ 0
    flat = grind (arith, nat_tests)

    full : is_empty_wish p wish ≡ false
    full = grind (arith, nat_tests)

    by_test : (test : Bool) → some_active (load_of p wish (item ∷ more)).lanes p.lanes ≡ test → test ≡ true
    by_test true is = refl
    by_test false is =
        let none = parts-none (λ i. carried ((load_of p wish (item ∷ more)).lanes i)) p.lanes
        (λ i less. carried-none ((load_of p wish (item ∷ more)).lanes i) (each-none (load_of p wish (item ∷ more)).lanes p.lanes is i less)
        (subst (λ (d : ℕ). Below d ((load_of p wish (item ∷ more)).lanes i).closes) flat (taken.are.within i))) in
        let same : (load_of p wish (item ∷ more)).rest ≡ item ∷ more = ap (λ (l : List Item). l ++ (load_of p wish (item ∷ more)).rest) (sym none) ∙ taken.splits in
        absurd (omega (arith, ap length same, takes-some p wish item more some fits full))

first-mask : (p : Parameters) (wishes : List Wish) → MasksFit p wishes → (first_wish p wishes).mask < 2 ^ p.lanes
first-mask p [] fits = ones_lt p.lanes
first-mask p (wish ∷ more) fits = fits.0

pub first-wide : (p : Parameters) (users : List (List Bool)) → UsersFit p users → length (first_user p users) ≡ p.user
first-wide p [] fits = length-zeros p.user
first-wide p (user ∷ more) fits = fits.0

pub users-behind : (p : Parameters) (users : List (List Bool)) → UsersFit p users → UsersFit p (behind users)
users-behind p [] fits = tt
users-behind p (user ∷ more) fits = fits.1

pub planned_shows : (p : Parameters) (wishes : List Wish) (users : List (List Bool)) (all : List Item) (ts : List Transfer) (tail : Option Tail) → 1 ≤ p.lanes → MasksFit p wishes → UsersFit p users → Goes p tail all →
    Planned p wishes users all ts → All (Shows p) ts
planned_shows p wishes users all [] tail some masks wide goes planned = All-nil (Shows p)
planned_shows p wishes users [] (t ∷ ts) tail some masks wide goes planned = absurd (planned.0 refl)
planned_shows p wishes users (item ∷ more) (t ∷ ts) tail some masks wide goes planned =
    let taken = taken_of p (first_wish p wishes) (item ∷ more) some goes.fit in
    let keeps = keeps_of p (first_wish p wishes) tail item more some goes in
    let shows = shows-of p (load_of p (first_wish p wishes) (item ∷ more)).lanes (first_user p users) taken.are some tail keeps.rules (first-wide p users wide)
    (acts-some p (first_wish p wishes) item more some (first-mask p wishes masks) taken) in
    All-cons (Shows p) t ts (subst (Shows p) (sym planned.1) shows)
    (planned_shows p (behind wishes) (behind users) (load_of p (first_wish p wishes) (item ∷ more)).rest ts _ some (fits-behind p wishes masks) (users-behind p users wide) keeps.goes planned.2)
