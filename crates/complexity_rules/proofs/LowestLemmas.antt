-- The lowest rule of a cycle, from a test for each rule.
use Rattle.std.proofs.Common.{◌≡◌, ◌∙◌, ◌↔◌, ℕ, ◌+◌, ◌^◌, ◌<◌, ◌≤◌, inl, inr, ◌⊎◌, Bool, true, false, not, ◌&&◌, nat_le, if◌then◌else◌, IsTrue, List, Option, None, Some, refl, sym, ap, subst, arith}
use Rattle.std.proofs.lemmas.Bool.{cases_lt, and_parts, and_from, le-leb, leb-true}
use Rattle.tydi_base.specs.Level.{number_of}
use Rattle.physical_stream.specs.Params.{Parameters}
use Rattle.physical_stream.specs.Cycles.{Cycle, items_done, waiting_of}
use Rattle.physical_stream.specs.Breaks.{BreaksAfter, Forbids, BreaksHold, BreaksIndex, BreaksLaneLast, BreaksStrobe, BreaksStart, BreaksEnd}
use Rattle.physical_stream.specs.Rules.{Binds, number_of_rule, binds_up_to}
use Rattle.physical_stream.specs.Shape.{tail_of}
use Rattle.physical_stream.specs.Signals.{Fits}
use Rattle.tydi_base.specs.Width.{index_width}
use Rattle.std.specs.Int.{bit_at}
use Rattle.physical_stream.specs.declared.item.Tail.{Tail}
use Rattle.physical_stream.specs.declared.transfer.Transfer.{Transfer}
use Rattle.physical_stream.specs.declared.rule.Rule.{Rule}
use Rattle.physical_stream.specs.declared.rule.Rule.TheVariants.{Hold, Index, LaneLast, Strobe, Start, End, Empty, InnerPause, OuterPause, Nest, Tag}
use Rattle.physical_stream.proofs.FirstLemmas.{same_rule}
use Rattle.complexity_rules.specs.Checking.{IsLowestBroken}
use Rattle.complexity_rules.specs.Walk.{Finds, misses_empty}
use Rattle.complexity_rules.specs.declared.walk.Walk.{Walk}
use Rattle.physical_stream.specs.Items.{items_of}
use Rattle.complexity_rules.proofs.BreakLemmas.{empty_test, nest_test}
use Rattle.complexity_rules.specs.Lowest.{is_broken, IsLowestFrom}
use Rattle.complexity_rules.specs.Waiting.{IsLowestShown}

module _ (p : Parameters) (before : List Cycle) (now : Cycle) where
  abbrev From : ℕ → Option Rule → Type 0
  From n lowest = IsLowestFrom p before now n lowest

  -- a test of a rule that looks at the level first
  pub broken_test : (rule : Rule) (forbidden broken : Bool) → broken ≡ is_broken p.level rule forbidden → (IsTrue forbidden ↔ Forbids rule p before now) → IsTrue broken ↔ BreaksAfter rule p before now
  broken_test rule forbidden broken is tells = subst (λ (b : Bool). IsTrue b ↔ BreaksAfter rule p before now) (sym is) (
    λ holds.
        let parts = and_parts (nat_le (number_of p.level) (binds_up_to rule)) forbidden holds in (leb-true (number_of p.level) (binds_up_to rule) parts.0, tells.0 parts.1),
    λ b. and_from (nat_le (number_of p.level) (binds_up_to rule)) forbidden (le-leb (number_of p.level) (binds_up_to rule) b.0) (tells.1 b.1),
  )

  -- a rule of this number is this one, or has a greater number
  at_number : (n : ℕ) (rule other : Rule) → number_of_rule rule ≡ n → n ≤ number_of_rule other → (rule ≡ other) ⊎ (n + 1 ≤ number_of_rule other)
  at_number n rule other is from = by_cases (cases_lt n (number_of_rule other))
    where
      by_cases : (n < number_of_rule other) ⊎ (number_of_rule other ≤ n) → (rule ≡ other) ⊎ (n + 1 ≤ number_of_rule other)
      by_cases (inl less) = inr (omega arith)
      by_cases (inr most) = inl (same_rule rule other (omega arith))

  -- a rule that is not broken says nothing
  pub lowest_skip : (n : ℕ) (rule : Rule) (higher : Option Rule) → number_of_rule rule ≡ n → (BreaksAfter rule p before now → ⊥) → From (n + 1) higher → From n higher
  lowest_skip n rule None is kept higher = λ other from b. by_number other (at_number n rule other is from) b
    where
      by_number : (other : Rule) → (rule ≡ other) ⊎ (n + 1 ≤ number_of_rule other) → BreaksAfter other p before now → ⊥
      by_number other (inl same) b = kept (subst (λ (r : Rule). BreaksAfter r p before now) (sym same) b)
      by_number other (inr more) b = higher other more b
  lowest_skip n rule (Some lowest) is kept higher = (higher.0, λ other from b. by_number other (at_number n rule other is from) b)
    where
      by_number : (other : Rule) → (rule ≡ other) ⊎ (n + 1 ≤ number_of_rule other) → BreaksAfter other p before now → number_of_rule lowest ≤ number_of_rule other
      by_number other (inl same) b = absurd (kept (subst (λ (r : Rule). BreaksAfter r p before now) (sym same) b))
      by_number other (inr more) b = higher.1 other more b

  -- a rule with its test
  pub lowest_step : (n : ℕ) (rule : Rule) (broken : Bool) (higher : Option Rule) → number_of_rule rule ≡ n → (IsTrue broken ↔ BreaksAfter rule p before now) →
      (broken ≡ false → From (n + 1) higher) → From n (if broken then Some rule else higher)
  lowest_step n rule true higher is tells from = (tells.0 refl, λ other above b. subst (λ (k : ℕ). k ≤ number_of_rule other) (sym is) above)
  lowest_step n rule false higher is tells from = lowest_skip n rule higher is (λ b. let clash : false ≡ true = tells.1 b in cc) (from refl)

  -- no rule has a greater number than Tag, which needs types
  pub lowest_top : From 11 None
  lowest_top Hold from b = absurd (omega arith)
  lowest_top Index from b = absurd (omega arith)
  lowest_top LaneLast from b = absurd (omega arith)
  lowest_top Strobe from b = absurd (omega arith)
  lowest_top Start from b = absurd (omega arith)
  lowest_top End from b = absurd (omega arith)
  lowest_top Empty from b = absurd (omega arith)
  lowest_top InnerPause from b = absurd (omega arith)
  lowest_top OuterPause from b = absurd (omega arith)
  lowest_top Nest from b = absurd (omega arith)
  lowest_top Tag from b = b.1

  pub one_least : (rule : Rule) → 1 ≤ number_of_rule rule
  one_least Hold = omega arith
  one_least Index = omega arith
  one_least LaneLast = omega arith
  one_least Strobe = omega arith
  one_least Start = omega arith
  one_least End = omega arith
  one_least Empty = omega arith
  one_least InnerPause = omega arith
  one_least OuterPause = omega arith
  one_least Nest = omega arith
  one_least Tag = omega arith

  pub lowest_of_all : (lowest : Option Rule) → From 1 lowest → IsLowestBroken p before now lowest
  lowest_of_all None from = λ rule b. from rule (one_least rule) b
  lowest_of_all (Some lowest) from = (from.0, λ rule b. from.1 rule (one_least rule) b)

-- ---- the rules on a cycle with valid

abbrev showing : Bool → Transfer → Cycle
showing ready t = record { ready = ready; shown = Some t }

not_held : (before : List Cycle) (now : Cycle) → waiting_of before ≡ None → BreaksHold before now → ⊥
not_held before now free b = let clash : None ≡ Some b.offered = sym free ∙ b.waits in cc

module _ (p : Parameters) (before : List Cycle) (ready : Bool) (t : Transfer) where
  abbrev FromShown : ℕ → Option Rule → Type 0
  FromShown n lowest = IsLowestFrom p before (showing ready t) n lowest

  -- the last rules that a cycle can break which shows a transfer: a pause is none
  lowest_nest : (tail : Option Tail) (walk : Walk) (nest : Bool) → tail ≡ tail_of (items_done p before) → Finds p.dims tail (items_of p t) walk →
      nest ≡ is_broken p.level Nest walk.misplaced → FromShown 8 (if nest then Some Nest else None)
  lowest_nest tail walk nest last_is found is =
      let now = showing ready t in
      let lowest = if nest then Some Nest else None in
      let is_nest = broken_test p before now Nest walk.misplaced nest is (nest_test p (items_done p before) t tail walk last_is found) in
      let at_nest = lowest_step p before now 10 Nest nest None refl is_nest (λ no. lowest_top p before now) in
      lowest_skip p before now 8 InnerPause lowest refl (λ b. b.1) (lowest_skip p before now 9 OuterPause lowest refl (λ b. b.1) at_nest)

  pub lowest_items : (tail : Option Tail) (walk : Walk) (empty nest : Bool) → tail ≡ tail_of (items_done p before) → Finds p.dims tail (items_of p t) walk →
      empty ≡ is_broken p.level Empty (not walk.active && misses_empty tail walk.first_close) → (empty ≡ false → nest ≡ is_broken p.level Nest walk.misplaced) →
      FromShown 7 (if empty then Some Empty else (if nest then Some Nest else None))
  lowest_items tail walk empty nest last_is found is_empty is_nest =
      let now = showing ready t in
      let misses = not walk.active && misses_empty tail walk.first_close in
      let tells = broken_test p before now Empty misses empty is_empty (empty_test p (items_done p before) t tail walk misses last_is found refl) in
      lowest_step p before now 7 Empty empty (if nest then Some Nest else None) refl tells (λ no. lowest_nest tail walk nest last_is found (is_nest no))

  -- the rules before them, none of which is broken
  pub lowest_lanes : (early : Bool) (higher : Option Rule) → (IsTrue false ↔ (Binds Index p.level × BreaksIndex p t)) → false ≡ is_broken p.level LaneLast early → (IsTrue early ↔ BreaksLaneLast p t) →
      (IsTrue false ↔ (Binds Strobe p.level × BreaksStrobe p t)) → (IsTrue false ↔ (Binds Start p.level × BreaksStart t)) → (IsTrue false ↔ (Binds End p.level × BreaksEnd p t)) →
      FromShown 7 higher → FromShown 2 higher
  lowest_lanes early higher no_index no_early is_early no_strobe no_start no_end above =
      let now = showing ready t in
      let at_end = lowest_step p before now 6 End false higher refl no_end (λ no. above) in
      let at_start = lowest_step p before now 5 Start false higher refl no_start (λ no. at_end) in
      let at_strobe = lowest_step p before now 4 Strobe false higher refl no_strobe (λ no. at_start) in
      let at_lane_last = lowest_step p before now 3 LaneLast false higher refl (broken_test p before now LaneLast early false no_early is_early) (λ no. at_strobe) in
      lowest_step p before now 2 Index false higher refl no_index (λ no. at_lane_last)

-- one lane has no two strobe bits, no two indices and no lane before the last one
zero_index : (lanes n : ℕ) → lanes ≡ 1 → n < 2 ^ index_width lanes → n ≡ 0
zero_index lanes n one below = let width : 2 ^ index_width lanes ≡ 1 = ap (λ (k : ℕ). 2 ^ index_width k) one in omega (arith, below, width)

no_index : (p : Parameters) (t : Transfer) → p.lanes ≡ 1 → Fits p t → BreaksIndex p t → ⊥
no_index p t one fits (inl less) = omega (arith, less, zero_index p.lanes t.stai one fits.stai)
no_index p t one fits (inr past) = omega (arith, past, one, zero_index p.lanes t.endi one fits.endi)

no_strobe : (p : Parameters) (t : Transfer) → p.lanes ≡ 1 → BreaksStrobe p t → ⊥
no_strobe p t one b =
    let same : b.one ≡ b.other = omega (arith, one, b.one_within, b.other_within) in
    let clash : ◌≡◌ {A = ℕ} 1 0 = sym b.one_set ∙ ap (λ (n : ℕ). bit_at t.strb n) same ∙ b.other_clear in omega (arith, clash)

pub lowest_one_lane : (p : Parameters) (before : List Cycle) (ready : Bool) (t : Transfer) (higher : Option Rule) → p.lanes ≡ 1 → Fits p t →
    IsLowestFrom p before (showing ready t) 7 higher → IsLowestFrom p before (showing ready t) 2 higher
lowest_one_lane p before ready t higher one fits above =
    let now = showing ready t in
    let above_end = lowest_skip p before now 6 End higher refl (λ b. b.1.0 (omega (arith, one, zero_index p.lanes t.endi one fits.endi))) above in
    let above_start = lowest_skip p before now 5 Start higher refl (λ b. omega (arith, b.1, zero_index p.lanes t.stai one fits.stai)) above_end in
    let above_strobe = lowest_skip p before now 4 Strobe higher refl (λ b. no_strobe p t one b.1) above_start in
    let above_lanes = lowest_skip p before now 3 LaneLast higher refl (λ b. omega (arith, one, b.1.early)) above_strobe in
    lowest_skip p before now 2 Index higher refl (λ b. no_index p t one fits b.1) above_lanes

-- ---- Hold

-- where no transfer waits, the lowest rule from the second on is the lowest
pub lowest_free : (p : Parameters) (before : List Cycle) (ready : Bool) (t : Transfer) (tail : Option Tail) (lowest : Option Rule) → waiting_of before ≡ None →
    tail ≡ tail_of (items_done p before) → IsLowestShown p tail t lowest → IsLowestBroken p before (showing ready t) lowest
lowest_free p before ready t tail lowest free is from =
    lowest_of_all p before (showing ready t) lowest (lowest_skip p before (showing ready t) 1 Hold lowest refl (λ b. not_held before (showing ready t) free b.1) (from before ready is))

-- where the transfer that waits is shown again, no rule is broken
pub lowest_again : (p : Parameters) (before : List Cycle) (ready : Bool) (t : Transfer) (tail : Option Tail) → waiting_of before ≡ Some t →
    tail ≡ tail_of (items_done p before) → IsLowestShown p tail t None → IsLowestBroken p before (showing ready t) None
lowest_again p before ready t tail waits is from =
    lowest_of_all p before (showing ready t) None (lowest_skip p before (showing ready t) 1 Hold None refl (λ b. b.1.changed (sym waits ∙ b.1.waits)) (from before ready is))

-- where another cycle comes, the rule on waiting transfers is broken
pub lowest_held : (p : Parameters) (before : List Cycle) (ready : Bool) (shown : Option Transfer) (offered : Transfer) → Binds Hold p.level → waiting_of before ≡ Some offered →
    (shown ≡ Some offered → ⊥) → IsLowestBroken p before (record { ready = ready; shown = shown }) (Some Hold)
lowest_held p before ready shown offered binds waits changed =
    ((binds, record { offered = offered; waits = waits; changed = changed }), λ rule b. one_least p before (record { ready = ready; shown = shown }) rule)
