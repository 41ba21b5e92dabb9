-- Which lanes are active and which mark ends, by the items of lanes.
use Rattle.std.proofs.Common.{◌≡◌, ◌∙◌, ◌↔◌, ℕ, zero, suc, ◌+◌, ◌*◌, ◌/◌, ◌%◌, ◌<◌, ◌≤◌, inl, inr, ◌⊎◌, Bool, true, false, ◌||◌, if◌then◌else◌, IsTrue, List, [], ◌∷◌, ◌++◌, length, Option, None, Some, is_some, not, refl, sym, ap, subst, arith}
use Rattle.std.specs.List.{All, slice_index_or}
use Rattle.std.proofs.Math.Nat.{div-add-mod, mod-lt, mul-le-mul_right}
use Rattle.std.proofs.lemmas.Bool.{cases_lt}
use Rattle.std.proofs.lemmas.List.{get_or_default}
use Rattle.std.proofs.lemmas.Nat.{mul-add-lt}
use Rattle.physical_stream.specs.Params.{Parameters}
use Rattle.physical_stream.specs.Items.{is_active, last_bit, lane_closes, lane_items, items_of, lane_word, parts_below}
use Rattle.physical_stream.specs.Breaks.{BreaksLaneLast, IsInactive}
use Rattle.physical_stream.specs.declared.item.Item.{Item}
use Rattle.physical_stream.specs.declared.item.Item.TheVariants as items
use Rattle.physical_stream.specs.declared.transfer.Transfer.{Transfer}
use Rattle.complexity_rules.specs.Walk.{has_element, first_close, first_of_two}
use Rattle.complexity_rules.proofs.WalkLemmas.{has_element-append, first_close-append}

-- a property of all numbers below n and of n holds for all below the next number
below_next : (P : ℕ → Type 0) (n : ℕ) → ((k : ℕ) → k < n → P k) → P n → (k : ℕ) → k < suc n → P k
below_next P n below here k within = by_cases (cases_lt k n)
  where
    by_cases : (k < n) ⊎ (n ≤ k) → P k
    by_cases (inl less) = below k less
    by_cases (inr not_less) = let same : n ≡ k = omega arith in subst P same here

-- ---- the ends that a lane marks

first_parts : (x y : Option ℕ) → first_of_two x y ≡ None → (x ≡ None) × (y ≡ None)
first_parts None y none = (refl, none)
first_parts (Some x) y none = cc

abbrev pub closes : (ℕ → Bool) → ℕ → List Item
closes bits dim = if bits dim then items.Close dim ∷ [] else []

unmarked_close : (dim : ℕ) (bit : Bool) → first_close (if bit then items.Close dim ∷ [] else []) ≡ None → bit ≡ false
unmarked_close dim false none = refl
unmarked_close dim true none = cc

marked_close : (dim d : ℕ) (bit : Bool) → first_close (if bit then items.Close dim ∷ [] else []) ≡ Some d → bit ≡ true
marked_close dim d true some = refl
marked_close dim d false some = cc

closes_unmarked : (bits : ℕ → Bool) (n : ℕ) → first_close (parts_below (closes bits) n) ≡ None → (dim : ℕ) → dim < n → bits dim ≡ false
closes_unmarked bits zero none dim within = absurd (omega arith)
closes_unmarked bits (suc n) none dim within =
    let parts = first_parts (first_close (parts_below (closes bits) n)) (first_close (closes bits n)) (sym (first_close-append (parts_below (closes bits) n) (closes bits n)) ∙ none) in
    below_next (λ dim. bits dim ≡ false) n (closes_unmarked bits n parts.0) (unmarked_close n (bits n) parts.1) dim within

closes_marked : (bits : ℕ → Bool) (n d : ℕ) → first_close (parts_below (closes bits) n) ≡ Some d → (dim : ℕ) × (dim < n) × (bits dim ≡ true)
closes_marked bits zero d some = cc
closes_marked bits (suc n) d some = by_first (first_close (parts_below (closes bits) n)) refl (λ e is. closes_marked bits n e is)
  where
    by_first : (found : Option ℕ) → first_close (parts_below (closes bits) n) ≡ found →
        ((e : ℕ) → first_close (parts_below (closes bits) n) ≡ Some e → (dim : ℕ) × (dim < n) × (bits dim ≡ true)) → (dim : ℕ) × (dim < suc n) × (bits dim ≡ true)
    by_first None is earlier =
        let last : first_close (closes bits n) ≡ Some d =
        ap (λ (x : Option ℕ). first_of_two x (first_close (closes bits n))) (sym is) ∙ sym (first_close-append (parts_below (closes bits) n) (closes bits n)) ∙ some in
        (n, omega arith, marked_close n d (bits n) last)
    by_first (Some e) is earlier = let found = earlier e is in (found.0, omega arith, found.2)

first_close-element : (active : Bool) (word : List Bool) (more : List Item) → first_close ((if active then items.Elem word ∷ [] else []) ++ more) ≡ first_close more
first_close-element false word more = refl
first_close-element true word more = refl

first_close-lane : (p : Parameters) (t : Transfer) (lane : ℕ) → first_close (lane_items p t lane) ≡ first_close (lane_closes p t lane)
first_close-lane p t lane = first_close-element (is_active t lane) (lane_word p t lane) (lane_closes p t lane)

-- none of the first lanes marks an end
abbrev pub IsUnmarked : Parameters → Transfer → ℕ → Type 0
IsUnmarked p t n = (lane : ℕ) → lane < n → (dim : ℕ) → dim < p.dims → last_bit p t lane dim ≡ false

-- one of the first lanes marks an end
pub record IsMarked (p : Parameters) (t : Transfer) (n : ℕ) : Type 0 where
  pub lane : ℕ
  pub dim : ℕ
  pub early : lane < n
  pub within : dim < p.dims
  pub marked : last_bit p t lane dim ≡ true

pub IsUnmarked-none : (p : Parameters) (t : Transfer) (n : ℕ) → first_close (parts_below (lane_items p t) n) ≡ None → IsUnmarked p t n
IsUnmarked-none p t zero none lane within = absurd (omega arith)
IsUnmarked-none p t (suc n) none lane within =
    let parts = first_parts (first_close (parts_below (lane_items p t) n)) (first_close (lane_items p t n)) (sym (first_close-append (parts_below (lane_items p t) n) (lane_items p t n)) ∙ none) in
    below_next (λ lane. (dim : ℕ) → dim < p.dims → last_bit p t lane dim ≡ false) n (IsUnmarked-none p t n parts.0)
    (closes_unmarked (last_bit p t n) p.dims (sym (first_close-lane p t n) ∙ parts.1)) lane within

pub IsMarked-some : (p : Parameters) (t : Transfer) (n d : ℕ) → first_close (parts_below (lane_items p t) n) ≡ Some d → IsMarked p t n
IsMarked-some p t zero d some = cc
IsMarked-some p t (suc n) d some = by_first (first_close (parts_below (lane_items p t) n)) refl (λ e is. IsMarked-some p t n e is)
  where
    by_first : (found : Option ℕ) → first_close (parts_below (lane_items p t) n) ≡ found →
        ((e : ℕ) → first_close (parts_below (lane_items p t) n) ≡ Some e → IsMarked p t n) → IsMarked p t (suc n)
    by_first None is earlier =
        let last : first_close (lane_closes p t n) ≡ Some d =
        sym (first_close-lane p t n) ∙ ap (λ (x : Option ℕ). first_of_two x (first_close (lane_items p t n))) (sym is)
        ∙ sym (first_close-append (parts_below (lane_items p t) n) (lane_items p t n)) ∙ some in
        let found = closes_marked (last_bit p t n) p.dims d last in
        record { lane = n; dim = found.0; early = omega arith; within = found.1; marked = found.2 }
    by_first (Some e) is earlier =
        let found = earlier e is in record { lane = found.lane; dim = found.dim; early = omega arith; within = found.within; marked = found.marked }

-- a lane before the last one marks an end exactly where a Close comes before the last lane's items
pub BreaksLaneLast-early : (p : Parameters) (t : Transfer) (before : ℕ) → before + 1 ≡ p.lanes →
    IsTrue (is_some (first_close (parts_below (lane_items p t) before))) ↔ BreaksLaneLast p t
BreaksLaneLast-early p t before next = (λ some. from_first (first_close (parts_below (lane_items p t) before)) refl some, λ b. to_first (first_close (parts_below (lane_items p t) before)) refl b)
  where
    from_first : (found : Option ℕ) → first_close (parts_below (lane_items p t) before) ≡ found → IsTrue (is_some found) → BreaksLaneLast p t
    from_first None is some = cc
    from_first (Some d) is some =
        let found = IsMarked-some p t before d is in
        record { lane = found.lane; dim = found.dim; early = omega arith; within = found.within; marked = found.marked }

    to_first : (found : Option ℕ) → first_close (parts_below (lane_items p t) before) ≡ found → BreaksLaneLast p t → IsTrue (is_some found)
    to_first (Some d) is b = refl
    to_first None is b =
        let clash : false ≡ true = sym (IsUnmarked-none p t before is b.lane (omega arith) b.dim b.within) ∙ b.marked in cc

-- ---- last bits

pub All-unmarked : (p : Parameters) (t : Transfer) → length t.last ≡ p.lanes * p.dims → IsUnmarked p t p.lanes → All (λ bit. bit ≡ false) t.last
All-unmarked p t long unmarked i d within =
    let some : 0 < p.dims = some_dims p.lanes p.dims i (omega arith) in
    let place : i / p.dims * p.dims + i % p.dims ≡ i = omega (arith, div-add-mod i p.dims) in
    let lane : i / p.dims < p.lanes = below_lanes i p.lanes p.dims (omega arith) place in
    get_or_default t.last i d false within
    ∙ ap (λ (n : ℕ). slice_index_or t.last n false) (sym place) ∙ unmarked (i / p.dims) lane (i % p.dims) (mod-lt i some)
  where
    some_dims : (lanes dims i : ℕ) → i < lanes * dims → 0 < dims
    some_dims lanes zero i within = absurd (omega arith)
    some_dims lanes (suc dims) i within = omega arith

    below_lanes : (i lanes dims : ℕ) → i < lanes * dims → i / dims * dims + i % dims ≡ i → i / dims < lanes
    below_lanes i lanes dims within place = by_cases (cases_lt (i / dims) lanes)
      where
        by_cases : (i / dims < lanes) ⊎ (lanes ≤ i / dims) → i / dims < lanes
        by_cases (inl less) = less
        by_cases (inr more) = absurd (omega (arith, mul-le-mul_right dims more))

pub IsUnmarked-All : (p : Parameters) (t : Transfer) → length t.last ≡ p.lanes * p.dims → All (λ bit. bit ≡ false) t.last → IsUnmarked p t p.lanes
IsUnmarked-All p t long all lane within dim inside = all (lane * p.dims + dim) false (omega (arith, mul-add-lt lane p.dims dim p.lanes within inside))

-- ---- active lanes

or_false_parts : (a b : Bool) → (a || b) ≡ false → (a ≡ false) × (b ≡ false)
or_false_parts false b none = (refl, none)
or_false_parts true b none = cc

has_element-closes : (bits : ℕ → Bool) (n : ℕ) → has_element (parts_below (closes bits) n) ≡ false
has_element-closes bits zero = refl
has_element-closes bits (suc n) =
    has_element-append (parts_below (closes bits) n) (closes bits n) ∙ ap (λ (b : Bool). b || has_element (closes bits n)) (has_element-closes bits n) ∙ at_bit (bits n)
  where
    at_bit : (bit : Bool) → has_element (if bit then items.Close n ∷ [] else []) ≡ false
    at_bit false = refl
    at_bit true = refl

has_element-lane : (p : Parameters) (t : Transfer) (lane : ℕ) → has_element (lane_items p t lane) ≡ is_active t lane
has_element-lane p t lane = at_active (is_active t lane)
  where
    at_active : (active : Bool) → has_element ((if active then items.Elem (lane_word p t lane) ∷ [] else []) ++ lane_closes p t lane) ≡ active
    at_active false = has_element-closes (last_bit p t lane) p.dims
    at_active true = refl

idle_below : (p : Parameters) (t : Transfer) (n : ℕ) → has_element (parts_below (lane_items p t) n) ≡ false → (lane : ℕ) → lane < n → is_active t lane ≡ false
idle_below p t zero none lane within = absurd (omega arith)
idle_below p t (suc n) none lane within =
    let parts = or_false_parts (has_element (parts_below (lane_items p t) n)) (has_element (lane_items p t n)) (sym (has_element-append (parts_below (lane_items p t) n) (lane_items p t n)) ∙ none) in
    below_next (λ lane. is_active t lane ≡ false) n (idle_below p t n parts.0) (sym (has_element-lane p t n) ∙ parts.1) lane within

no_element_below : (p : Parameters) (t : Transfer) (n : ℕ) → ((lane : ℕ) → lane < n → is_active t lane ≡ false) → has_element (parts_below (lane_items p t) n) ≡ false
no_element_below p t zero idle = refl
no_element_below p t (suc n) idle =
    has_element-append (parts_below (lane_items p t) n) (lane_items p t n)
    ∙ ap (λ (b : Bool). b || has_element (lane_items p t n)) (no_element_below p t n (λ lane within. idle lane (omega arith))) ∙ has_element-lane p t n ∙ idle n (omega arith)

-- no lane is active exactly where no item is an element
pub IsInactive-has_element : (p : Parameters) (t : Transfer) → has_element (items_of p t) ≡ false → IsInactive p t
IsInactive-has_element p t none = idle_below p t p.lanes none

pub has_element-IsInactive : (p : Parameters) (t : Transfer) → IsInactive p t → has_element (items_of p t) ≡ false
has_element-IsInactive p t idle = no_element_below p t p.lanes idle

-- no last bit is set exactly where no Close comes
pub no_close-All : (p : Parameters) (t : Transfer) (found : Option ℕ) (test : Bool) → length t.last ≡ p.lanes * p.dims → found ≡ first_close (items_of p t) →
    is_some found ≡ not test → IsTrue test ↔ All (λ bit. bit ≡ false) t.last
no_close-All p t None true long is tells = (λ holds. All-unmarked p t long (IsUnmarked-none p t p.lanes (sym is)), λ all. refl)
no_close-All p t None false long is tells = cc
no_close-All p t (Some d) true long is tells = cc
no_close-All p t (Some d) false long is tells = (
  λ holds. cc,
  λ all.
      let found = IsMarked-some p t p.lanes d (sym is) in
      let clash : false ≡ true = sym (IsUnmarked-All p t long all found.lane found.early found.dim found.within) ∙ found.marked in cc,
)
