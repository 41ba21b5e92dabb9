-- Planned transfers break no rule on what is shown.
use Rattle.std.proofs.Common.{◌≡◌, ◌∙◌, ◌⊎◌, inl, inr, ℕ, zero, suc, ◌+◌, ◌-◌, ◌*◌, ◌^◌, ◌<◌, ◌≤◌, Bool, true, false, ◌||◌, nat_le, if◌then◌else◌, List, [], ◌∷◌, ◌++◌, length, Option, None, refl, sym, ap, subst, arith}
use Rattle.std.specs.Int.{bit_at}
use Rattle.std.specs.List.{All}
use Rattle.std.proofs.Math.Nat.{suc-mul, mul-le-mul_right}
use Rattle.std.proofs.lemmas.Bool.Decides.{nat_tests}
use Rattle.std.proofs.lemmas.List.{append-nil}
use Rattle.std.proofs.lemmas.Nat.Bits.{bit_at-zero, bit_at_ones}
use Rattle.tydi_base.specs.Level.{number_of}
use Rattle.physical_stream.specs.Params.{Parameters}
use Rattle.physical_stream.specs.Cycles.{items_done}
use Rattle.physical_stream.specs.Items.{parts_below, items_of}
use Rattle.physical_stream.specs.Shape.{tail_of, closes_empty, has_misplaced}
use Rattle.physical_stream.specs.Breaks.{BreaksIndex, BreaksLaneLast, BreaksStrobe, BreaksStart, BreaksEnd, BreaksEmpty, BreaksNest, FirstClose, IsElem}
use Rattle.physical_stream.specs.declared.item.Item.{Item}
use Rattle.physical_stream.specs.declared.item.Item.TheVariants.{Elem, Close}
use Rattle.physical_stream.specs.declared.item.Tail.{Tail}
use Rattle.physical_stream.specs.declared.transfer.Transfer.{Transfer}
use Rattle.physical_stream.specs.declared.rule.Rule.TheVariants as rules
use Rattle.complexity_rules.specs.Waiting.{IsLowestShown}
use Rattle.complexity_rules.proofs.BreakLemmas.{BreaksNest-misplaced}
use Rattle.physical_stream.proofs.PartsLemmas.{length-parts_below}
use Rattle.scheduler.specs.Lanes.{Lane, is_among, lowest_active, highest_active, some_active, active_bits, transfer_of}
use Rattle.scheduler.proofs.PartLemmas.{Below, length-parts, eq-true}
use Rattle.scheduler.proofs.CarryLemmas.{acts, AreLanes, carried, items_of-carried, is_active-of, last_bit-of, lowest-le, some-from, highest-below, highest-is}

pub lowest-none : (lanes : ℕ → Lane) (n other : ℕ) → ((i : ℕ) → i < n → acts lanes i ≡ false) → lowest_active lanes n other ≡ other
lowest-none lanes zero other none = refl
lowest-none lanes (suc n) other none = rw (none n (omega arith)) (lowest-none lanes n other (λ i less. none i (omega arith)))

pub highest-none : (lanes : ℕ → Lane) (n other : ℕ) → ((i : ℕ) → i < n → acts lanes i ≡ false) → highest_active lanes n other ≡ other
highest-none lanes zero other none = refl
highest-none lanes (suc n) other none = rw (none n (omega arith)) (highest-none lanes n other (λ i less. none i (omega arith)))

pub each-none : (lanes : ℕ → Lane) (n : ℕ) → some_active lanes n ≡ false → (i : ℕ) → i < n → acts lanes i ≡ false
each-none lanes n none i less = by_test (acts lanes i) refl
  where
    by_test : (test : Bool) → acts lanes i ≡ test → test ≡ false
    by_test true is = let clash : false ≡ true = sym none ∙ some-from lanes n i less is in cc
    by_test false is = refl

-- the lowest active lane is not above the greatest, and both are lanes
pub in-order : (lanes : ℕ → Lane) (n : ℕ) → 1 ≤ n → (test : Bool) → some_active lanes n ≡ test →
    (lowest_active lanes n 0 ≤ highest_active lanes n (n - 1)) × (highest_active lanes n (n - 1) < n)
in-order lanes n some true is =
    let below = highest-below lanes n (n - 1) is in
    (lowest-le lanes n 0 (highest_active lanes n (n - 1)) below (highest-is lanes n (n - 1) is), below)
in-order lanes n some false is =
    let none = each-none lanes n is in
    (omega (arith, lowest-none lanes n 0 none), omega (arith, highest-none lanes n (n - 1) none, some))

-- the conditions that keep the rules on what is shown
pub record KeepsRules (p : Parameters) (tail : Option Tail) (lanes : ℕ → Lane) : Type 0 where
  pub last : number_of p.level ≤ 7 → (i : ℕ) → i + 1 < p.lanes → (lanes i).closes ≡ []
  pub start : number_of p.level ≤ 5 → (i : ℕ) → i < p.lanes → acts lanes i ≡ true → acts lanes 0 ≡ true
  pub ends : number_of p.level ≤ 4 → (highest_active lanes p.lanes (p.lanes - 1) ≡ p.lanes - 1) ⊎ ((c : ℕ) × ((ds : List ℕ) × ((lanes (p.lanes - 1)).closes ≡ c ∷ ds)))
  pub empties : number_of p.level ≤ 3 → ((i : ℕ) → i < p.lanes → acts lanes i ≡ false) →
      (c : ℕ) × ((more : List Item) × ((parts_below (λ i. carried (lanes i)) p.lanes ≡ Close c ∷ more) × (closes_empty tail c ≡ true)))
  pub nested : has_misplaced tail (parts_below (λ i. carried (lanes i)) p.lanes) ≡ false

module _ (p : Parameters) (lanes : ℕ → Lane) (user : List Bool) (are : AreLanes p lanes) (some : 1 ≤ p.lanes) (tail : Option Tail) (k : KeepsRules p tail lanes) where
  shown : Transfer
  shown = transfer_of p lanes user

  no-index : BreaksIndex p (transfer_of p lanes user) → ⊥
  no-index broken = by_case broken
    where
      order : (lowest_active lanes p.lanes 0 ≤ highest_active lanes p.lanes (p.lanes - 1)) × (highest_active lanes p.lanes (p.lanes - 1) < p.lanes)
      order = in-order lanes p.lanes some (some_active lanes p.lanes) refl

      by_case : (highest_active lanes p.lanes (p.lanes - 1) < lowest_active lanes p.lanes 0) ⊎ (p.lanes ≤ highest_active lanes p.lanes (p.lanes - 1)) → ⊥
      by_case (inl less) = omega (arith, less, order.0)
      by_case (inr more) = omega (arith, more, order.1)

  no-lane_last : number_of p.level ≤ 7 → BreaksLaneLast p (transfer_of p lanes user) → ⊥
  no-lane_last level b =
      let none : is_among b.dim (lanes b.lane).closes ≡ false = ap (is_among b.dim) (k.last level b.lane b.early) in
      let clash : true ≡ false = sym b.marked ∙ last_bit-of p lanes user are b.lane b.dim (let e = b.early in omega (arith, e)) b.within ∙ none in
      cc

  no-strobe : number_of p.level ≤ 6 → BreaksStrobe p (transfer_of p lanes user) → ⊥
  no-strobe level b = by_some (some_active lanes p.lanes) (sym b.one_set ∙ bits b.one) (sym b.other_clear ∙ bits b.other)
    where
      bits : (i : ℕ) → bit_at (transfer_of p lanes user).strb i ≡ bit_at (if some_active lanes p.lanes then 2 ^ p.lanes - 1 else 0) i
      bits i = let low : nat_le 7 (number_of p.level) ≡ false = grind (arith, nat_tests) in ap (λ (b : Bool). bit_at (if b then active_bits lanes p.lanes else (if some_active lanes p.lanes then 2 ^ p.lanes - 1 else 0)) i) low

      by_some : (test : Bool) → 1 ≡ bit_at (if test then 2 ^ p.lanes - 1 else 0) b.one → 0 ≡ bit_at (if test then 2 ^ p.lanes - 1 else 0) b.other → ⊥
      by_some true one other = let full = bit_at_ones p.lanes b.other b.other_within in omega (arith, other, full)
      by_some false one other = let none = bit_at-zero b.one in omega (arith, one, none)

  pub no-start : number_of p.level ≤ 5 → BreaksStart (transfer_of p lanes user) → ⊥
  no-start level broken = by_some (some_active lanes p.lanes) refl
    where
      by_some : (test : Bool) → some_active lanes p.lanes ≡ test → ⊥
      by_some true is =
          let first = k.start level (highest_active lanes p.lanes (p.lanes - 1)) (highest-below lanes p.lanes (p.lanes - 1) is) (highest-is lanes p.lanes (p.lanes - 1) is) in
          let zero_first = lowest-le lanes p.lanes 0 0 some first in
          omega (arith, zero_first, broken)
      by_some false is = let none = lowest-none lanes p.lanes 0 (each-none lanes p.lanes is) in omega (arith, none, broken)

  no-end : number_of p.level ≤ 4 → BreaksEnd p (transfer_of p lanes user) → ⊥
  no-end level broken = by_ends (k.ends level)
    where
      by_ends : (highest_active lanes p.lanes (p.lanes - 1) ≡ p.lanes - 1) ⊎ ((c : ℕ) × ((ds : List ℕ) × ((lanes (p.lanes - 1)).closes ≡ c ∷ ds))) → ⊥
      by_ends (inl is) = broken.0 (omega (arith, is, some))
      by_ends (inr e) =
          let within : e.0 < p.dims = (subst (Below p.dims) e.1.1 (are.within (p.lanes - 1))).0 in
          let among : is_among e.0 (lanes (p.lanes - 1)).closes ≡ true = ap (is_among e.0) e.1.1 ∙ (let same = eq-true e.0 e.0 refl in ap (λ (b : Bool). b || is_among e.0 e.1.0) same) in
          let long : length (transfer_of p lanes user).last ≡ p.lanes * p.dims =
          length-parts (λ lane. parts_below (λ d. is_among d (lanes lane).closes ∷ []) p.dims) p.dims p.lanes (λ j l. length-parts_below (λ d. is_among d (lanes j).closes ∷ []) p.dims (λ d m. refl)) in
          let one_more : (p.lanes - 1) * p.dims + p.dims ≤ p.lanes * p.dims = omega (arith, suc-mul (p.lanes - 1) p.dims, mul-le-mul_right {m = suc (p.lanes - 1)} {n = p.lanes} p.dims (omega arith)) in
          let clear = broken.1 ((p.lanes - 1) * p.dims + e.0) false (omega (arith, long, within, one_more)) in
          let clash : false ≡ true = sym clear ∙ last_bit-of p lanes user are (p.lanes - 1) e.0 (omega arith) within ∙ among in
          cc

  no-empty : (done : List Item) → tail ≡ tail_of done → number_of p.level ≤ 3 → BreaksEmpty p done (transfer_of p lanes user) → ⊥
  no-empty done is level b = by_closes b.closes
    where
      found : (c : ℕ) × ((more : List Item) × ((parts_below (λ i. carried (lanes i)) p.lanes ≡ Close c ∷ more) × (closes_empty tail c ≡ true)))
      found = k.empties level (λ i less. sym (is_active-of p lanes user are i less) ∙ b.inactive i less)

      items_are : items_of p (transfer_of p lanes user) ≡ Close found.0 ∷ found.1.0
      items_are = items_of-carried p lanes user are ∙ found.1.1.0

      by_front : (front : List Item) (dim : ℕ) (rest : List Item) → All IsElem front → Close found.0 ∷ found.1.0 ≡ front ++ Close dim ∷ rest → closes_empty (tail_of (done ++ front)) dim ≡ false → ⊥
      by_front [] dim rest elements splits wrong =
          let same : found.0 ≡ dim = cc in
          let at : tail_of (done ++ []) ≡ tail = ap tail_of (append-nil done) ∙ sym is in
          let clash : false ≡ true = sym wrong ∙ ap (λ (t : Option Tail). closes_empty t dim) at ∙ ap (closes_empty tail) (sym same) ∙ found.1.1.1 in
          cc
      by_front (Elem word ∷ front) dim rest elements splits wrong = let clash : Close found.0 ≡ Elem word = cc in cc
      by_front (Close d ∷ front) dim rest elements splits wrong = elements 0 (Close d) (omega arith)

      by_closes : (items_of p (transfer_of p lanes user) ≡ []) ⊎ ((first : FirstClose done (items_of p (transfer_of p lanes user))) × (closes_empty (tail_of (done ++ first.front)) first.dim ≡ false)) → ⊥
      by_closes (inl none) = let clash = sym items_are ∙ none in cc
      by_closes (inr f) = let first = f.0 in by_front first.front first.dim first.rest first.elements (sym items_are ∙ first.splits) f.1

  no-nest : (done : List Item) → tail ≡ tail_of done → BreaksNest p done (transfer_of p lanes user) → ⊥
  no-nest done is b =
      let wrong : has_misplaced (tail_of done) (items_of p (transfer_of p lanes user)) ≡ true = (BreaksNest-misplaced p done (transfer_of p lanes user)).1 b in
      let right : has_misplaced (tail_of done) (items_of p (transfer_of p lanes user)) ≡ false =
      ap (has_misplaced (tail_of done)) (items_of-carried p lanes user are) ∙ ap (λ (t : Option Tail). has_misplaced t (parts_below (λ i. carried (lanes i)) p.lanes)) (sym is) ∙ k.nested in
      let clash : true ≡ false = sym wrong ∙ right in cc

  -- no rule on what is shown is broken
  pub obeys : IsLowestShown p tail (transfer_of p lanes user) None
  obeys before ready is rules.Hold more broken = omega (arith, more)
  obeys before ready is rules.Index more broken = no-index broken.1
  obeys before ready is rules.LaneLast more broken = no-lane_last broken.0 broken.1
  obeys before ready is rules.Strobe more broken = no-strobe broken.0 broken.1
  obeys before ready is rules.Start more broken = no-start broken.0 broken.1
  obeys before ready is rules.End more broken = no-end broken.0 broken.1
  obeys before ready is rules.Empty more broken = no-empty (items_done p before) is broken.0 broken.1
  obeys before ready is rules.InnerPause more broken = broken.1
  obeys before ready is rules.OuterPause more broken = broken.1
  obeys before ready is rules.Nest more broken = no-nest (items_done p before) is broken.1
  obeys before ready is rules.Tag more broken = broken.1
