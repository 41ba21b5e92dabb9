-- The front of a buffer as a load of elements and Closes, and where it is the same with more items behind.
use Rattle.std.proofs.Common.{◌≡◌, ◌∙◌, ℕ, ◌-◌, ◌^◌, ◌+◌, ◌<◌, ◌≤◌, ◌⊎◌, inl, inr, Bool, true, false, ◌&&◌, ◌==◌, nat_le, nat_lt, if◌then◌else◌, List, [], ◌++◌, length, drop, Option, None, refl, sym, ap, subst, arith}
use Rattle.std.specs.Int.{bit_at}
use Rattle.std.proofs.Math.Path.{fun_ext}
use Rattle.std.proofs.lemmas.Bool.Decides.{nat_tests}
use Rattle.std.proofs.lemmas.List.{drop-append-le}
use Rattle.std.proofs.lemmas.Nat.Bits.{bit_at-zero, bit_at_ones}
use Rattle.physical_stream.specs.Params.{Parameters}
use Rattle.physical_stream.specs.declared.item.Item.{Item}
use Rattle.scheduler.specs.Lanes.{Lane, transfer_of}
use Rattle.scheduler.specs.Planned.{Load, behind_run, count_of, elements_of, first_user, first_wish, first_word, is_allowed, mask_of, packed_load, place_in, run_from}
use Rattle.reshape.specs.Reshaping.{behind_front, front_load}
use Rattle.reshape_laws.specs.Laws.{HasSameFront}
use Rattle.reshape_laws.proofs.RunItems.{SameRun, elements-few, elements-more, elements-stop, first-same}

full-mask : (n : ℕ) → 1 ≤ n → 2 ^ n - 1 ≡ 0 → ⊥
full-mask n some e = let bit = bit_at_ones n 0 (omega (arith, some)) in let clash : 0 ≡ 1 = sym (bit_at-zero 0) ∙ sym (ap (λ (y : ℕ). bit_at y 0) e) ∙ bit in omega (arith, clash)

module _ (to : Parameters) (some : 1 ≤ to.lanes) where
  -- the lanes that may take an element, where no wish is made
  abbrev pub lanes_for : ℕ → Bool
  lanes_for = is_allowed to (mask_of to (first_wish to []))

  -- how many elements the front has
  abbrev pub count : List Item → ℕ
  count items = count_of to lanes_for items

  -- the items behind its elements
  abbrev pub behind_elements : List Item → List Item
  behind_elements items = drop (count items) items

  pub load-is : (items : List Item) →
      front_load to items ≡ packed_load to lanes_for (count items) (run_from 0 (behind_elements items)) items (behind_run 0 (behind_elements items))
  load-is items = rw not_empty refl
    where
      not_empty : (2 ^ to.lanes - 1 == 0) ≡ false
      not_empty = by_test (2 ^ to.lanes - 1 == 0) refl
        where
          by_test : (test : Bool) → (2 ^ to.lanes - 1 == 0) ≡ test → test ≡ false
          by_test true is = absurd (full-mask to.lanes some (grind (arith, nat_tests)))
          by_test false is = refl

  pub behind-is : (items : List Item) → behind_front to items ≡ behind_run 0 (behind_elements items)
  behind-is items = ap (λ (l : Load). l.rest) (load-is items)

  count-elements : (items : List Item) → count items ≤ elements_of items
  count-elements items = by_test (nat_le (elements_of items) (place_in lanes_for to.lanes)) refl
    where
      by_test : (test : Bool) → nat_le (elements_of items) (place_in lanes_for to.lanes) ≡ test → (if test then elements_of items else place_in lanes_for to.lanes) ≤ elements_of items
      by_test true is = omega arith
      by_test false is = grind (arith, nat_tests)

  pub count-few : (items : List Item) → count items ≤ length items
  count-few items = omega (arith, count-elements items, elements-few items)

  -- the elements are all that the items begin with, or those of all lanes
  pub count-cases : (items : List Item) → ((count items ≡ elements_of items) × (elements_of items ≤ place_in lanes_for to.lanes)) ⊎ ((count items ≡ place_in lanes_for to.lanes) × (count items < elements_of items))
  count-cases items = by_test (nat_le (elements_of items) (place_in lanes_for to.lanes)) refl
    where
      by_test : (test : Bool) → nat_le (elements_of items) (place_in lanes_for to.lanes) ≡ test →
          (((if test then elements_of items else place_in lanes_for to.lanes) ≡ elements_of items) × (elements_of items ≤ place_in lanes_for to.lanes))
          ⊎ (((if test then elements_of items else place_in lanes_for to.lanes) ≡ place_in lanes_for to.lanes) × ((if test then elements_of items else place_in lanes_for to.lanes) < elements_of items))
      by_test true is = inl (refl, grind (arith, nat_tests))
      by_test false is = inr (refl, grind (arith, nat_tests))

  count-place : (items : List Item) → place_in lanes_for to.lanes ≤ elements_of items → count items ≡ place_in lanes_for to.lanes
  count-place items more = by_test (nat_le (elements_of items) (place_in lanes_for to.lanes)) refl
    where
      by_test : (test : Bool) → nat_le (elements_of items) (place_in lanes_for to.lanes) ≡ test → (if test then elements_of items else place_in lanes_for to.lanes) ≡ place_in lanes_for to.lanes
      by_test true is = let less : elements_of items ≤ place_in lanes_for to.lanes = grind (arith, nat_tests) in omega (arith, less, more)
      by_test false is = refl

  count-all : (items : List Item) → elements_of items ≤ place_in lanes_for to.lanes → count items ≡ elements_of items
  count-all items less = let test : nat_le (elements_of items) (place_in lanes_for to.lanes) ≡ true = grind (arith, nat_tests) in ap (λ (b : Bool). if b then elements_of items else place_in lanes_for to.lanes) test

  -- as many elements, where all lanes have one, or an item follows them
  pub count-same : (buffer more : List Item) → (place_in lanes_for to.lanes ≤ elements_of buffer) ⊎ (0 < length (behind_elements buffer)) → count (buffer ++ more) ≡ count buffer
  count-same buffer more (inl full) = count-place (buffer ++ more) (omega (arith, full, elements-more buffer more)) ∙ sym (count-place buffer full)
  count-same buffer more (inr follows) = by_cases (count-cases buffer)
    where
      by_cases : ((count buffer ≡ elements_of buffer) × (elements_of buffer ≤ place_in lanes_for to.lanes)) ⊎ ((count buffer ≡ place_in lanes_for to.lanes) × (count buffer < elements_of buffer)) → count (buffer ++ more) ≡ count buffer
      by_cases (inl all) =
          let stop = elements-stop buffer more (subst (λ (n : ℕ). 0 < length (drop n buffer)) all.0 follows) in
          count-all (buffer ++ more) (omega (arith, stop, all.1)) ∙ stop ∙ sym all.0
      by_cases (inr full) =
          count-place (buffer ++ more) (omega (arith, full.0, full.1, elements-more buffer more)) ∙ sym full.0

  behind-more : (buffer more : List Item) → count (buffer ++ more) ≡ count buffer → behind_elements (buffer ++ more) ≡ behind_elements buffer ++ more
  behind-more buffer more same = ap (λ (n : ℕ). drop n (buffer ++ more)) same ∙ drop-append-le (count buffer) buffer more (count-few buffer)

  -- the front is the same, where it has as many elements and the same Closes
  module _ (buffer more : List Item) (same : count (buffer ++ more) ≡ count buffer) (run : SameRun 0 (behind_elements buffer) more) where
    closes-same : run_from 0 (behind_elements (buffer ++ more)) ≡ run_from 0 (behind_elements buffer)
    closes-same = ap (run_from 0) (behind-more buffer more same) ∙ run.0

    word-same : (lane : ℕ) → (if lanes_for lane && nat_lt (place_in lanes_for lane) (count buffer) then first_word (drop (place_in lanes_for lane) (buffer ++ more)) else None)
        ≡ (if lanes_for lane && nat_lt (place_in lanes_for lane) (count buffer) then first_word (drop (place_in lanes_for lane) buffer) else None)
    word-same lane = by_test (lanes_for lane && nat_lt (place_in lanes_for lane) (count buffer)) refl
      where
        by_test : (test : Bool) → (lanes_for lane && nat_lt (place_in lanes_for lane) (count buffer)) ≡ test → (if test then first_word (drop (place_in lanes_for lane) (buffer ++ more)) else None)
            ≡ (if test then first_word (drop (place_in lanes_for lane) buffer) else None)
        by_test true is = let less : place_in lanes_for lane < count buffer = grind (arith, nat_tests) in first-same buffer more (place_in lanes_for lane) (omega (arith, less, count-elements buffer))
        by_test false is = refl

    lanes-same : (front_load to (buffer ++ more)).lanes ≡ (front_load to buffer).lanes
    lanes-same =
        ap (λ (l : Load). l.lanes) (load-is (buffer ++ more))
        ∙ ap (λ (n : ℕ). (packed_load to lanes_for n (run_from 0 (behind_elements (buffer ++ more))) (buffer ++ more) []).lanes) same
        ∙ ap (λ (l : List ℕ). (packed_load to lanes_for (count buffer) l (buffer ++ more) []).lanes) closes-same
        ∙ fun_ext (λ lane. ap (λ (word : Option (List Bool)). record { word = word; closes = if lane + 1 == to.lanes then run_from 0 (behind_elements buffer) else [] }) (word-same lane))
        ∙ sym (ap (λ (l : Load). l.lanes) (load-is buffer))

    pub front-same : HasSameFront to buffer more
    front-same = record {
      front = ap (λ (lanes : ℕ → Lane). transfer_of to lanes (first_user to [])) lanes-same;
      rest = behind-is (buffer ++ more) ∙ ap (behind_run 0) (behind-more buffer more same) ∙ run.1 ∙ ap (λ (l : List Item). l ++ more) (sym (behind-is buffer));
    }
