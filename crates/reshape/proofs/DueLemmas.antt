-- When items are due, by how far their front reaches.
use Rattle.std.proofs.Common.{◌≡◌, ◌∙◌, ◌⊎◌, inl, inr, ℕ, zero, suc, ◌+◌, ◌-◌, ◌<◌, ◌≤◌, Bool, true, false, ◌&&◌, ◌||◌, ◌==◌, nat_lt, List, [], ◌∷◌, length, take, slice_get, Option, None, Some, refl, sym, ap, arith}
use Rattle.std.proofs.lemmas.Bool.{cases_lt}
use Rattle.std.proofs.lemmas.Bool.Decides.{nat_tests}
use Rattle.std.proofs.lemmas.List.{length-drop, length-take-le, take_all}
use Rattle.physical_stream.specs.Params.{Parameters}
use Rattle.physical_stream.specs.Shape.{tail_of, is_whole}
use Rattle.physical_stream.specs.declared.item.Item.{Item}
use Rattle.physical_stream.specs.declared.item.Item.TheVariants.{Elem, Close}
use Rattle.physical_stream.specs.declared.item.Tail.{Tail}
use Rattle.physical_stream.specs.declared.item.Tail.TheVariants as tails
use Rattle.scheduler.specs.Planned.{elements_of}
use Rattle.reshape.specs.Fronts.{above_tail, goes_on, IsFront}
use Rattle.reshape.specs.Held.{held_in}
use Rattle.reshape.specs.Kept.{HasRoom}
use Rattle.reshape.specs.Reshaping.{ends_outermost, fills_lanes, is_due, is_followed}
use Rattle.reshape.specs.declared.front.Front.{Front}
use Rattle.reshape.proofs.FrontLemmas.{front-items, front-rest}

module _ (p : Parameters) (some : 1 ≤ p.lanes) (item : Item) (more : List Item) (front : Front) (is_front : IsFront p (item ∷ more) front) where
  -- the front of some items is not empty
  pub size-some : 0 < front.size
  size-some = by_size front.size refl
    where
      by_size : (size : ℕ) → front.size ≡ size → 0 < size
      by_size (suc size) is = omega arith
      by_size zero is = by_item item refl (is_front.stops item (ap (slice_get (item ∷ more)) is))
        where
          none : take front.size (item ∷ more) ≡ []
          none = ap (λ (n : ℕ). take n (item ∷ more)) is

          elements : front.elements ≡ 0
          elements = sym (is_front.begun.elements) ∙ ap elements_of none

          least : front.least ≡ 0
          least = is_front.begun.last ∙ ap (λ (l : List Item). above_tail (tail_of l)) none

          by_item : (first : Item) → item ≡ first → goes_on p.lanes front first ≡ false → 0 < 0
          by_item (Elem word) same stop = let e = elements in let l = least in let clash : ⊥ = grind (arith, nat_tests) in absurd clash
          by_item (Close dim) same stop = let l = least in let clash : ⊥ = grind (arith, nat_tests) in absurd clash

  followed-is : is_followed p (item ∷ more) ≡ nat_lt front.size (length (item ∷ more))
  followed-is =
      ap (λ (l : List Item). nat_lt 0 (length l)) (front-rest p some (item ∷ more) front is_front)
      ∙ ap (nat_lt 0) (length-drop front.size (item ∷ more)) ∙ by_place (cases_lt front.size (length (item ∷ more)))
    where
      by_place : (front.size < length (item ∷ more)) ⊎ (length (item ∷ more) ≤ front.size) → nat_lt 0 (length (item ∷ more) - front.size) ≡ nat_lt front.size (length (item ∷ more))
      by_place (inl less) =
          let one : nat_lt front.size (length (item ∷ more)) ≡ true = grind (arith, nat_tests) in
          let two : nat_lt 0 (length (item ∷ more) - front.size) ≡ true = grind (arith, nat_tests) in
          two ∙ sym one
      by_place (inr most) =
          let one : nat_lt front.size (length (item ∷ more)) ≡ false = grind (arith, nat_tests) in
          let two : nat_lt 0 (length (item ∷ more) - front.size) ≡ false = grind (arith, nat_tests) in
          two ∙ sym one

  tail-some : (items : List Item) → 0 < length items → tail_of items ≡ None → ⊥
  tail-some [] less is = absurd (omega (arith, less))
  tail-some (i ∷ []) less is = cc
  tail-some (i ∷ j ∷ items) less is = tail-some (j ∷ items) (omega arith) is

  closed-is : ends_outermost p (item ∷ more) ≡ (nat_lt 0 p.dims && (front.least == p.dims))
  closed-is =
      ap (λ (l : List Item). nat_lt 0 p.dims && is_whole p.dims (tail_of l)) (front-items p some (item ∷ more) front is_front)
      ∙ by_tail (tail_of (take front.size (item ∷ more))) refl
    where
      there : tail_of (take front.size (item ∷ more)) ≡ None → ⊥
      there = tail-some (take front.size (item ∷ more)) (let s = size-some in let l = length-take-le front.size (item ∷ more) is_front.begun.within in omega (arith, s, l))

      by_tail : (tail : Option Tail) → tail_of (take front.size (item ∷ more)) ≡ tail → (nat_lt 0 p.dims && is_whole p.dims tail) ≡ (nat_lt 0 p.dims && (front.least == p.dims))
      by_tail None is = absurd (there is)
      by_tail (Some tails.Elem) is = let l : front.least ≡ 0 = is_front.begun.last ∙ ap above_tail is in rw l (by_dims p.dims)
        where
          by_dims : (dims : ℕ) → (nat_lt 0 dims && (dims == 0)) ≡ (nat_lt 0 dims && (0 == dims))
          by_dims zero = refl
          by_dims (suc dims) = let one : (suc dims == 0) ≡ false = grind (arith, nat_tests) in let two : (0 == suc dims) ≡ false = grind (arith, nat_tests) in rw (one, two) refl
      by_tail (Some (tails.Close dim)) is = let l : front.least ≡ dim + 1 = is_front.begun.last ∙ ap above_tail is in rw l (by_dims p.dims)
        where
          by_dims : (dims : ℕ) → (nat_lt 0 dims && ((dims == 0) || (dim + 1 == dims))) ≡ (nat_lt 0 dims && (dim + 1 == dims))
          by_dims zero = refl
          by_dims (suc dims) = let one : (suc dims == 0) ≡ false = grind (arith, nat_tests) in rw one refl

  full-is : fills_lanes p (item ∷ more) ≡ ((p.dims == 0) && (front.elements == p.lanes))
  full-is = ap (λ (n : ℕ). (p.dims == 0) && (n == p.lanes)) (ap elements_of (front-items p some (item ∷ more) front is_front) ∙ is_front.begun.elements)

  pub due-is : (ended : Bool) → is_due p ended (item ∷ more) ≡ (nat_lt front.size (length (item ∷ more)) || (nat_lt 0 p.dims && (front.least == p.dims)) || ((p.dims == 0) && (front.elements == p.lanes)) || ended)
  due-is ended =
      ap (λ (b : Bool). b || ends_outermost p (item ∷ more) || fills_lanes p (item ∷ more) || ended) followed-is
      ∙ ap (λ (b : Bool). nat_lt front.size (length (item ∷ more)) || b || fills_lanes p (item ∷ more) || ended) closed-is
      ∙ ap (λ (b : Bool). nat_lt front.size (length (item ∷ more)) || (nat_lt 0 p.dims && (front.least == p.dims)) || b || ended) full-is

-- the same of items of which there are some, test by test
module _ (p : Parameters) (some : 1 ≤ p.lanes) (front : Front) (ended : Bool) where
  pub due-yes : (items : List Item) → 0 < length items → IsFront p items front → (nat_lt front.size (length items) ≡ true) ⊎ (ended ≡ true) → is_due p ended items ≡ true
  due-yes [] less is_front why = absurd (omega (arith, less))
  due-yes (item ∷ more) less is_front why = due-is p some item more front is_front ended ∙ by_test (nat_lt front.size (length (item ∷ more))) (nat_lt 0 p.dims && (front.least == p.dims)) ((p.dims == 0) && (front.elements == p.lanes)) ended why
    where
      last-true : (b : Bool) → (b || true) ≡ true
      last-true true = refl
      last-true false = refl

      by_test : (a b c d : Bool) → (a ≡ true) ⊎ (d ≡ true) → (a || b || c || d) ≡ true
      by_test true b c d (inl is) = refl
      by_test false b c d (inl is) = cc
      by_test a b c true (inr is) = last-true (a || b || c)
      by_test a b c false (inr is) = cc

  pub due-flat : (items : List Item) → 0 < length items → IsFront p items front → nat_lt front.size (length items) ≡ false → ended ≡ false → p.dims ≡ 0 → is_due p ended items ≡ (front.elements == p.lanes)
  due-flat [] less is_front last goes flat = absurd (omega (arith, less))
  due-flat (item ∷ more) less is_front last goes flat =
      let none : nat_lt 0 p.dims ≡ false = grind (arith, nat_tests) in
      let here : (p.dims == 0) ≡ true = grind (arith, nat_tests) in
      due-is p some item more front is_front ended ∙ rw (last, none, here, goes) (or-false (front.elements == p.lanes))
    where
      or-false : (b : Bool) → (b || false) ≡ b
      or-false true = refl
      or-false false = refl

  pub due-deep : (items : List Item) → 0 < length items → IsFront p items front → nat_lt front.size (length items) ≡ false → ended ≡ false → (p.dims ≡ 0 → ⊥) → is_due p ended items ≡ (front.least == p.dims)
  due-deep [] less is_front last goes deep = absurd (omega (arith, less))
  due-deep (item ∷ more) less is_front last goes deep =
      let some_dims : nat_lt 0 p.dims ≡ true = grind (arith, nat_tests) in
      let not_here : (p.dims == 0) ≡ false = grind (arith, nat_tests) in
      due-is p some item more front is_front ended ∙ rw (last, some_dims, not_here, goes) (or-false (front.least == p.dims))
    where
      or-false : (b : Bool) → ((b || false) || false) ≡ b
      or-false true = refl
      or-false false = refl

-- items that are not due are one front: few elements, and few Closes behind them
pub room-left : (p : Parameters) (items : List Item) (front : Front) (ended : Bool) → 1 ≤ p.lanes → IsFront p items front → is_due p ended items ≡ false → HasRoom p items
room-left p [] front ended some is_front none = record { held = omega arith; many = omega arith }
room-left p (item ∷ more) front ended some is_front none =
    let due = sym (due-is p some item more front is_front ended) ∙ none in
    let last : nat_lt front.size (length (item ∷ more)) ≡ false = first-false (nat_lt front.size (length (item ∷ more))) _ _ _ due in
    let most : length (item ∷ more) ≤ front.size = grind (arith, nat_tests) in
    let all : take front.size (item ∷ more) ≡ item ∷ more = take_all front.size (item ∷ more) most in
    let h = is_front.begun.held in
    let few = is_front.begun.few in
    let low = is_front.begun.low in
    let short = is_front.begun.short in
    record {
      held = omega (arith, ap held_in all, h, few);
      many = omega (arith, most, short, few, low);
    }
  where
    first-false : (a b c d : Bool) → (a || b || c || d) ≡ false → a ≡ false
    first-false true b c d is = cc
    first-false false b c d is = refl
