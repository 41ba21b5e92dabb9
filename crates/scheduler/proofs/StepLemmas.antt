-- One transfer after another.
use Rattle.std.proofs.Common.{◌≡◌, ◌∙◌, ℕ, zero, suc, ◌+◌, ◌-◌, ◌*◌, ◌^◌, ◌<◌, ◌≤◌, Bool, true, false, ◌||◌, ◌==◌, nat_le, if◌then◌else◌, List, [], ◌∷◌, ◌++◌, length, drop, bit_or, Some, None, is_some, slice_get, refl, sym, ap, subst, arith, add-one}
use Rattle.std.proofs.lemmas.Bool.Decides.{nat_tests}
use Rattle.std.proofs.lemmas.List.{append-nil, length-drop}
use Rattle.std.proofs.Math.Nat.{zero-mul}
use Rattle.tydi_base.specs.Bits.{zero_bits}
use Rattle.tydi_base.specs.Level.{number_of}
use Rattle.physical_stream.specs.Params.{Parameters}
use Rattle.physical_stream.specs.Items.{parts_below}
use Rattle.physical_stream.specs.Signals.{Fits}
use Rattle.physical_stream.proofs.PartsLemmas.{parts_below-same}
use Rattle.physical_stream.specs.declared.item.Item.{Item}
use Rattle.physical_stream.specs.declared.transfer.Transfer.{Transfer}
use Rattle.scheduler.specs.declared.way.Way.{Way}
use Rattle.scheduler.specs.Lanes.{Lane, word_or, is_among, lowest_active, highest_active, some_active, active_bits, strobe_of, transfer_of}
use Rattle.scheduler.specs.Laws.{AreItems, UsersFit}
use Rattle.scheduler.specs.Filling.{IsFilledSoFar, lanes_on}
use Rattle.scheduler.specs.Meeting.{Meets}
use Rattle.scheduler.specs.Planned.{MasksFit, behind, first_user, first_wish, load_of, plan_of}
use Rattle.scheduler.specs.Stepping.{CanGoOn, IsNext, IsPassed, IsStrobed}
use Rattle.plan_text.specs.declared.plan.Wish.{Wish}
use Rattle.scheduler.proofs.CarryLemmas.{acts}
use Rattle.scheduler.proofs.LaneLemmas.{active-none, active-some}
use Rattle.scheduler.proofs.ObeyLemmas.{each-none}
use Rattle.scheduler.proofs.LoadLemmas.{AreItems-drop, taken_of}
use Rattle.scheduler.proofs.PlanLemmas.{plan_step}
use Rattle.scheduler.proofs.ShowLemmas.{fits-of, first-wide}

-- ---- a transfer looks only at lanes that the stream has

same_transfer : (one other : Transfer) → one.content ≡ other.content → one.last ≡ other.last → one.stai ≡ other.stai → one.endi ≡ other.endi → one.strb ≡ other.strb → one.user ≡ other.user →
    ◌≡◌ {A = Transfer} (record { content = one.content; last = one.last; stai = one.stai; endi = one.endi; strb = one.strb; user = one.user })
    (record { content = other.content; last = other.last; stai = other.stai; endi = other.endi; strb = other.strb; user = other.user })
same_transfer one other content last stai endi strb user = cc

module _ (one other : ℕ → Lane) where
  abbrev Same : ℕ → Type 0
  Same n = (lane : ℕ) → lane < n → one lane ≡ other lane

  lowest-same : (n found : ℕ) → Same n → lowest_active one n found ≡ lowest_active other n found
  lowest-same zero found same = refl
  lowest-same (suc n) found same =
      lowest-same n (if acts one n then n else found) (λ lane less. same lane (omega arith))
      ∙ ap (λ (lane : Lane). lowest_active other n (if is_some lane.word then n else found)) (same n (omega arith))

  highest-same : (n found : ℕ) → Same n → highest_active one n found ≡ highest_active other n found
  highest-same zero found same = refl
  highest-same (suc n) found same =
      ap (λ (h : ℕ). if acts one n then n else h) (highest-same n found (λ lane less. same lane (omega arith)))
      ∙ ap (λ (lane : Lane). if is_some lane.word then n else highest_active other n found) (same n (omega arith))

  bits-same : (n : ℕ) → Same n → active_bits one n ≡ active_bits other n
  bits-same zero same = refl
  bits-same (suc n) same =
      ap (λ (b : ℕ). bit_or b (if acts one n then 2 ^ n else 0)) (bits-same n (λ lane less. same lane (omega arith)))
      ∙ ap (λ (lane : Lane). bit_or (active_bits other n) (if is_some lane.word then 2 ^ n else 0)) (same n (omega arith))

  some-same : (n : ℕ) → Same n → some_active one n ≡ some_active other n
  some-same zero same = refl
  some-same (suc n) same =
      ap (λ (b : Bool). b || acts one n) (some-same n (λ lane less. same lane (omega arith)))
      ∙ ap (λ (lane : Lane). some_active other n || is_some lane.word) (same n (omega arith))

  module _ (p : Parameters) (user : List Bool) (same : Same p.lanes) where
    strobe-same : strobe_of p one ≡ strobe_of p other
    strobe-same = rw (bits-same p.lanes same, some-same p.lanes same) refl

    pub transfer-same : transfer_of p one user ≡ transfer_of p other user
    transfer-same =
        let content = parts_below-same (λ lane. word_or p.element (one lane).word) (λ lane. word_or p.element (other lane).word) p.lanes (λ lane less. ap (λ (l : Lane). word_or p.element l.word) (same lane less)) in
        let last = parts_below-same (λ lane. parts_below (λ dim. is_among dim (one lane).closes ∷ []) p.dims) (λ lane. parts_below (λ dim. is_among dim (other lane).closes ∷ []) p.dims) p.lanes
        (λ lane less. ap (λ (l : Lane). parts_below (λ dim. is_among dim l.closes ∷ []) p.dims) (same lane less)) in
        let stai = lowest-same p.lanes 0 same in
        let endi = highest-same p.lanes (p.lanes - 1) same in
        let strb = strobe-same in
        same_transfer _ _ content last stai endi strb refl

-- ---- lanes that are filled make the transfer

no-more : (width n : ℕ) (parts : List Bool) → parts ++ zero_bits ((n - n) * width) ≡ parts
no-more width n parts =
    let none : n - n ≡ 0 = omega arith in
    ap (λ (m : ℕ). parts ++ zero_bits (m * width)) none ∙ ap (λ (m : ℕ). parts ++ zero_bits m) (zero-mul width) ∙ append-nil parts

strobe-is : (p : Parameters) (lanes : ℕ → Lane) (strb : ℕ) → strb ≡ active_bits lanes p.lanes → (if nat_le 7 (number_of p.level) then strb else (if strb == 0 then 0 else 2 ^ p.lanes - 1)) ≡ strobe_of p lanes
strobe-is p lanes strb is = by_level (nat_le 7 (number_of p.level))
  where
    by_some : (some : Bool) → some_active lanes p.lanes ≡ some → (if strb == 0 then 0 else 2 ^ p.lanes - 1) ≡ (if some then 2 ^ p.lanes - 1 else 0)
    by_some true some =
        let full = active-some lanes p.lanes some in
        let other : (strb == 0) ≡ false = grind (arith, nat_tests) in
        rw other refl
    by_some false some =
        let empty = active-none lanes p.lanes (each-none lanes p.lanes some) in
        let zero_is : (strb == 0) ≡ true = grind (arith, nat_tests) in
        rw zero_is refl

    by_level : (high : Bool) → (if high then strb else (if strb == 0 then 0 else 2 ^ p.lanes - 1)) ≡ (if high then active_bits lanes p.lanes else (if some_active lanes p.lanes then 2 ^ p.lanes - 1 else 0))
    by_level true = is
    by_level false = by_some (some_active lanes p.lanes) refl

module _ (p : Parameters) (wish : Wish) (way : Way) (items : List Item) (place next : ℕ) (old mid new : Transfer) (meets : Meets p wish items place way)
    (filled : IsFilledSoFar p way items place p.lanes next old mid) where
  pub filled-transfer : IsStrobed p mid new → new ≡ transfer_of p (load_of p wish (drop place items)).lanes old.user
  filled-transfer strobed =
      same_transfer new (transfer_of p (lanes_on way items place) old.user)
      (strobed.content ∙ filled.filled.content ∙ no-more p.element p.lanes _)
      (strobed.last ∙ filled.filled.last ∙ no-more p.dims p.lanes _)
      (strobed.stai ∙ filled.filled.stai) (strobed.endi ∙ filled.filled.endi)
      (strobed.strb ∙ strobe-is p (lanes_on way items place) mid.strb filled.filled.strb)
      (strobed.user ∙ filled.user)
      ∙ transfer-same (lanes_on way items place) (load_of p wish (drop place items)).lanes p old.user meets.lanes

-- ---- the wish and the user word of a number

pub wish-there : (p : Parameters) (wishes : List Wish) (number : ℕ) (wish : Wish) → slice_get wishes number ≡ Some wish → wish ≡ first_wish p (drop number wishes)
wish-there p [] number wish is = cc
wish-there p (w ∷ more) zero wish is = cc
wish-there p (w ∷ more) (suc number) wish is = wish-there p more number wish is

pub wish-none : (p : Parameters) (wishes : List Wish) (number : ℕ) → slice_get wishes number ≡ None → first_wish p (drop number wishes) ≡ record { mask = 2 ^ p.lanes - 1; late = false; laned = false }
wish-none p [] zero is = refl
wish-none p [] (suc number) is = refl
wish-none p (w ∷ more) zero is = cc
wish-none p (w ∷ more) (suc number) is = wish-none p more number is

pub user-there : (p : Parameters) (users : List (List Bool)) (number : ℕ) (user : List Bool) → slice_get users number ≡ Some user → user ≡ first_user p (drop number users)
user-there p [] number user is = cc
user-there p (u ∷ more) zero user is = cc
user-there p (u ∷ more) (suc number) user is = user-there p more number user is

pub user-none : (p : Parameters) (users : List (List Bool)) (number : ℕ) → slice_get users number ≡ None → zero_bits p.user ≡ first_user p (drop number users)
user-none p [] zero is = refl
user-none p [] (suc number) is = refl
user-none p (u ∷ more) zero is = cc
user-none p (u ∷ more) (suc number) is = user-none p more number is

behind-drop : {A : Type 0} (n : ℕ) (l : List A) → behind (drop n l) ≡ drop (n + 1) l
behind-drop {A} n l = by_suc n l ∙ ap (λ (m : ℕ). drop m l) (sym (add-one n))
  where
    by_suc : (n : ℕ) (l : List A) → behind (drop n l) ≡ drop (suc n) l
    by_suc zero [] = refl
    by_suc zero (x ∷ more) = refl
    by_suc (suc n) [] = refl
    by_suc (suc n) (x ∷ more) = by_suc n more

pub user-wide : (p : Parameters) (users : List (List Bool)) (number : ℕ) (user : List Bool) → UsersFit p users → slice_get users number ≡ Some user → length user ≡ p.user
user-wide p [] number user fits is = cc
user-wide p (u ∷ more) zero user fits is = let same : u ≡ user = cc in ap length (sym same) ∙ fits.0
user-wide p (u ∷ more) (suc number) user fits is = user-wide p more number user fits.1 is

UsersFit-drop : (p : Parameters) (n : ℕ) (users : List (List Bool)) → UsersFit p users → UsersFit p (drop n users)
UsersFit-drop p zero users fits = fits
UsersFit-drop p (suc n) [] fits = tt
UsersFit-drop p (suc n) (user ∷ more) fits = UsersFit-drop p n more fits.1

pub MasksFit-drop : (p : Parameters) (n : ℕ) (wishes : List Wish) → MasksFit p wishes → MasksFit p (drop n wishes)
MasksFit-drop p zero wishes fits = fits
MasksFit-drop p (suc n) [] fits = tt
MasksFit-drop p (suc n) (wish ∷ more) fits = MasksFit-drop p n more fits.1

-- ---- the next transfer

some-step : (p : Parameters) (wishes : List Wish) (users : List (List Bool)) (left : List Item) → 0 < length left → 1 ≤ p.lanes → MasksFit p wishes →
    plan_of p wishes users left ≡ transfer_of p (load_of p (first_wish p wishes) left).lanes (first_user p users) ∷ plan_of p (behind wishes) (behind users) (load_of p (first_wish p wishes) left).rest
some-step p wishes users [] long some fits = absurd (omega (arith, long))
some-step p wishes users (item ∷ more) long some fits = plan_step p wishes users item more some fits

module _ (p : Parameters) (items : List Item) (wishes : List Wish) (users : List (List Bool)) (can : CanGoOn p items wishes users) (place number : ℕ) (less : place < length items) where
  abbrev left : List Item
  left = drop place items

  abbrev wish : Wish
  wish = first_wish p (drop number wishes)

  abbrev user : List Bool
  user = first_user p (drop number users)

  fit : AreItems p left
  fit = AreItems-drop p place items can.fit

  some-left : 0 < length left
  some-left = let long = length-drop place items in omega (arith, long, less)

  pub is-next : (next : ℕ) (t : Transfer) → next ≤ length items → t ≡ transfer_of p (load_of p wish left).lanes user → drop next items ≡ (load_of p wish left).rest → IsNext p items wishes users place number t next
  is-next next t within is rest = record {
    within = within;
    fits = subst (Fits p) (sym is) (fits-of p (load_of p wish left).lanes user (taken_of p wish left can.some fit).are can.some (first-wide p (drop number users) (UsersFit-drop p number users can.wide)));
    first =
        some-step p (drop number wishes) (drop number users) left some-left can.some (MasksFit-drop p number wishes can.masks)
        ∙ ap (λ (x : Transfer). x ∷ plan_of p (behind (drop number wishes)) (behind (drop number users)) (load_of p wish left).rest) (sym is)
        ∙ ap (λ (l : List Item). t ∷ plan_of p (behind (drop number wishes)) (behind (drop number users)) l) (sym rest)
        ∙ ap (λ (ws : List Wish). t ∷ plan_of p ws (behind (drop number users)) (drop next items)) (behind-drop number wishes)
        ∙ ap (λ (us : List (List Bool)). t ∷ plan_of p (drop (number + 1) wishes) us (drop next items)) (behind-drop number users);
  }

  pub is-passed : (next : ℕ) (t : Transfer) → next ≤ length items → Fits p t → drop next items ≡ (load_of p wish left).rest → IsPassed p items wishes users place number t next
  is-passed next t within fits rest = record {
    within = within;
    fits = fits;
    fewer = ap length (is-next next (transfer_of p (load_of p wish left).lanes user) within refl rest).first ∙ omega arith;
  }

  pub passed-by : (next : ℕ) (t : Transfer) → IsNext p items wishes users place number t next → IsPassed p items wishes users place number t next
  passed-by next t is = record { within = is.within; fits = is.fits; fewer = ap length is.first ∙ omega arith }

abbrev pub whole-wish : ℕ → Wish
whole-wish mask = record { mask = mask; late = false; laned = false }
