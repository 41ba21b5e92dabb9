-- The front of a due buffer is the same, whatever comes behind it.
use Rattle.std.proofs.Common.{◌≡◌, ◌∙◌, ℕ, zero, suc, ◌+◌, ◌-◌, ◌<◌, ◌≤◌, ◌⊎◌, inl, inr, Bool, true, false, ◌||◌, if◌then◌else◌, List, [], ◌∷◌, ◌++◌, length, Option, None, Some, refl, sym, ap, subst, arith}
use Rattle.std.proofs.lemmas.Bool.{cases_lt}
use Rattle.std.proofs.lemmas.Bool.Decides.{nat_tests}
use Rattle.std.proofs.lemmas.List.{append-nil, drop_all, length-drop, take_all}
use Rattle.physical_stream.specs.Params.{Parameters}
use Rattle.physical_stream.specs.Shape.{is_whole, tail_of}
use Rattle.physical_stream.specs.declared.item.Item.{Item}
use Rattle.physical_stream.specs.declared.item.Item.TheVariants.{Elem, Close}
use Rattle.physical_stream.specs.declared.item.Tail.{Tail}
use Rattle.physical_stream.specs.declared.item.Tail.TheVariants as tails
use Rattle.scheduler.specs.Laws.{AreItems}
use Rattle.scheduler.specs.Planned.{behind_run, elements_of, place_in}
use Rattle.reshape.specs.Reshaping.{behind_front, ends_outermost, fills_lanes, front_of, is_followed, items_in_front}
use Rattle.reshape_laws.specs.Laws.{DueFrontsStay, HasSameFront}
use Rattle.reshape_laws.proofs.LoadLemmas.{behind-is, behind_elements, count, count-cases, count-same, front-same, lanes_for}
use Rattle.reshape_laws.proofs.RunItems.{SameRun, element-behind, elements-all, flat-elements, run-ends, run-none, run-stops, tail-drop}

no-items : {A : Type 0} (items : List A) → length items ≡ 0 → items ≡ []
no-items [] none = refl
no-items (x ∷ items) none = absurd (omega (arith, none))

pub items-apart : (p : Parameters) (one other : List Item) → AreItems p (one ++ other) → AreItems p one × AreItems p other
items-apart p [] other fit = (tt, fit)
items-apart p (Elem word ∷ one) other fit = let more = items-apart p one other fit.1 in ((fit.0, more.0), more.1)
items-apart p (Close dim ∷ one) other fit = let more = items-apart p one other fit.1 in ((fit.0, more.0), more.1)

place-few : (allowed : ℕ → Bool) (n : ℕ) → place_in allowed n ≤ n
place-few allowed zero = omega arith
place-few allowed (suc n) = by_test (allowed n) (place-few allowed n)
  where
    by_test : (test : Bool) → place_in allowed n ≤ n → (if test then 1 else 0) + place_in allowed n ≤ suc n
    by_test true few = omega (arith, few)
    by_test false few = omega (arith, few)

-- the last item closes the outermost dimension
outermost-tail : (dims : ℕ) (tail : Option Tail) → 0 < dims → is_whole dims tail ≡ true → (tail ≡ None) ⊎ ((dim : ℕ) × (tail ≡ Some (tails.Close dim)) × (suc dim ≡ dims))
outermost-tail dims None some whole = inl refl
outermost-tail dims (Some tails.Elem) some whole = let none : dims ≡ 0 = grind (arith, nat_tests) in absurd (omega (arith, some, none))
outermost-tail dims (Some (tails.Close dim)) some whole = inr (dim, refl, grind (arith, nat_tests))

tail-some : (items : List Item) → 0 < length items → tail_of items ≡ None → ⊥
tail-some [] some none = omega (arith, some)
tail-some (i ∷ []) some none = cc
tail-some (i ∷ j ∷ more) some none = tail-some (j ∷ more) (omega arith) none

module _ (to : Parameters) (some : 1 ≤ to.lanes) (buffer more : List Item) (fit : AreItems to (buffer ++ more)) where
  pub same-followed : is_followed to buffer ≡ true → HasSameFront to buffer more
  same-followed follows =
      let rest : 0 < length (behind_front to buffer) = grind (arith, nat_tests) in
      let behind : 0 < length (behind_run 0 (behind_elements to some buffer)) = subst (λ (l : List Item). 0 < length l) (behind-is to some buffer) rest in
      front-same to some buffer more (count-same to some buffer more (inr (some-behind (behind_elements to some buffer) behind))) (run-stops 0 (behind_elements to some buffer) more behind)
    where
      some-behind : (items : List Item) → 0 < length (behind_run 0 items) → 0 < length items
      some-behind [] s = absurd (omega (arith, s))
      some-behind (i ∷ items) s = omega arith

  module _ (over : is_followed to buffer ≡ false) where
    -- nothing is behind the front
    behind-none : length (behind_run 0 (behind_elements to some buffer)) ≡ 0
    behind-none = let none : length (behind_front to buffer) ≡ 0 = grind (arith, nat_tests) in ap length (sym (behind-is to some buffer)) ∙ none

    -- so the front has all items
    front-all : items_in_front to buffer ≡ buffer
    front-all =
        let none : length (behind_front to buffer) ≡ 0 = grind (arith, nat_tests) in
        take_all (length buffer - length (behind_front to buffer)) buffer (omega (arith, none))

    -- and all elements
    elements-are : count to some buffer ≡ elements_of buffer
    elements-are = by_cases (count-cases to some buffer)
      where
        by_cases : ((count to some buffer ≡ elements_of buffer) × (elements_of buffer ≤ place_in (lanes_for to some) to.lanes)) ⊎ ((count to some buffer ≡ place_in (lanes_for to some) to.lanes) × (count to some buffer < elements_of buffer)) →
            count to some buffer ≡ elements_of buffer
        by_cases (inl all) = all.0
        by_cases (inr full) = absurd (let behind = element-behind buffer (count to some buffer) full.1 in omega (arith, behind, behind-none))

    elements-place : elements_of buffer ≤ place_in (lanes_for to some) to.lanes
    elements-place = by_cases (count-cases to some buffer)
      where
        by_cases : ((count to some buffer ≡ elements_of buffer) × (elements_of buffer ≤ place_in (lanes_for to some) to.lanes)) ⊎ ((count to some buffer ≡ place_in (lanes_for to some) to.lanes) × (count to some buffer < elements_of buffer)) →
            elements_of buffer ≤ place_in (lanes_for to some) to.lanes
        by_cases (inl all) = all.1
        by_cases (inr full) = absurd (let behind = element-behind buffer (count to some buffer) full.1 in omega (arith, behind, behind-none))

    same-outermost-at : (dim : ℕ) → tail_of buffer ≡ Some (tails.Close dim) → suc dim ≡ to.dims → HasSameFront to buffer more
    same-outermost-at dim tail last = by_place (cases_lt (count to some buffer) (length buffer))
      where
        by_place : (count to some buffer < length buffer) ⊎ (length buffer ≤ count to some buffer) → HasSameFront to buffer more
        by_place (inl less) =
            front-same to some buffer more (count-same to some buffer more (inr (omega (arith, less, length-drop (count to some buffer) buffer))))
            (run-ends to 0 (behind_elements to some buffer) more dim last (items-apart to buffer more fit).1 behind-none (tail-drop buffer (count to some buffer) less ∙ tail))
        by_place (inr all) = absurd (elements-all buffer dim (omega (arith, all, elements-are)) tail)

    pub same-outermost : 0 < length buffer → ends_outermost to buffer ≡ true → HasSameFront to buffer more
    same-outermost there ends = by_tail (outermost-tail to.dims (tail_of buffer) (grind (arith, nat_tests)) whole)
      where
        whole : is_whole to.dims (tail_of buffer) ≡ true
        whole = let w : is_whole to.dims (tail_of (items_in_front to buffer)) ≡ true = grind (arith, nat_tests) in ap (λ (l : List Item). is_whole to.dims (tail_of l)) (sym front-all) ∙ w

        by_tail : (tail_of buffer ≡ None) ⊎ ((dim : ℕ) × (tail_of buffer ≡ Some (tails.Close dim)) × (suc dim ≡ to.dims)) → HasSameFront to buffer more
        by_tail (inl none) = absurd (tail-some buffer there none)
        by_tail (inr closes) = same-outermost-at closes.0 closes.1 closes.2

    pub same-filled : fills_lanes to buffer ≡ true → HasSameFront to buffer more
    same-filled fills =
        let none : to.dims ≡ 0 = grind (arith, nat_tests) in
        let full : elements_of (items_in_front to buffer) ≡ to.lanes = grind (arith, nat_tests) in
        let all : elements_of buffer ≡ to.lanes = ap elements_of (sym front-all) ∙ full in
        let apart = items-apart to buffer more fit in
        let nothing : behind_elements to some buffer ≡ [] = drop_all (count to some buffer) buffer (omega (arith, elements-are, flat-elements to buffer none apart.0)) in
        let run : SameRun 0 [] more = run-none to 0 more (sym none) apart.1 in
        front-same to some buffer more (count-same to some buffer more (inl (omega (arith, all, place-few (lanes_for to some) to.lanes)))) (subst (λ (l : List Item). SameRun 0 l more) (sym nothing) run)

or-cases : (a b c d : Bool) → (a || b || c || d) ≡ true → (a ≡ true) ⊎ ((a ≡ false) × ((b ≡ true) ⊎ ((c ≡ true) ⊎ (d ≡ true))))
or-cases true b c d is = inl refl
or-cases false true c d is = inr (refl, inl refl)
or-cases false false true d is = inr (refl, inr (inl refl))
or-cases false false false true is = inr (refl, inr (inr refl))
or-cases false false false false is = cc

pub due_fronts_stay : DueFrontsStay
due_fronts_stay to ended [] more some fit last due = cc
due_fronts_stay to ended (item ∷ items) more some fit last due = by_cases (or-cases (is_followed to buffer) (ends_outermost to buffer) (fills_lanes to buffer) ended due)
  where
    buffer : List Item
    buffer = item ∷ items

    by_cases : (is_followed to buffer ≡ true) ⊎ ((is_followed to buffer ≡ false) × ((ends_outermost to buffer ≡ true) ⊎ ((fills_lanes to buffer ≡ true) ⊎ (ended ≡ true)))) → HasSameFront to buffer more
    by_cases (inl follows) = same-followed to some buffer more fit follows
    by_cases (inr (over, inl ends)) = same-outermost to some buffer more fit over (omega arith) ends
    by_cases (inr (over, inr (inl fills))) = same-filled to some buffer more fit over fills
    by_cases (inr (over, inr (inr is))) = subst (HasSameFront to buffer) (sym (last is)) nothing
      where
        nothing : HasSameFront to buffer []
        nothing = record { front = ap (front_of to) (append-nil buffer); rest = ap (behind_front to) (append-nil buffer) ∙ sym (append-nil (behind_front to buffer)) }
