-- Items in front of others: elements, and runs of Closes.
use Rattle.std.proofs.Common.{◌≡◌, ℕ, zero, suc, ◌<◌, ◌≤◌, Bool, true, false, nat_le, if◌then◌else◌, List, [], ◌∷◌, ◌++◌, length, drop, Some, refl, ap, arith}
use Rattle.std.proofs.lemmas.Bool.Decides.{nat_tests}
use Rattle.physical_stream.specs.Params.{Parameters}
use Rattle.physical_stream.specs.Shape.{tail_of}
use Rattle.physical_stream.specs.declared.item.Item.{Item}
use Rattle.physical_stream.specs.declared.item.Item.TheVariants.{Elem, Close}
use Rattle.physical_stream.specs.declared.item.Tail.TheVariants as tails
use Rattle.scheduler.specs.Laws.{AreItems}
use Rattle.scheduler.specs.Planned.{behind_run, elements_of, first_word, run_from}

-- ---- elements

pub elements-few : (items : List Item) → elements_of items ≤ length items
elements-few [] = omega arith
elements-few (Elem word ∷ more) = omega (arith, elements-few more)
elements-few (Close dim ∷ more) = omega arith

pub elements-more : (items more : List Item) → elements_of items ≤ elements_of (items ++ more)
elements-more [] more = omega arith
elements-more (Elem word ∷ items) more = omega (arith, elements-more items more)
elements-more (Close dim ∷ items) more = omega arith

-- a Close follows the elements
pub elements-stop : (items more : List Item) → 0 < length (drop (elements_of items) items) → elements_of (items ++ more) ≡ elements_of items
elements-stop [] more some = absurd (omega (arith, some))
elements-stop (Elem word ∷ items) more some = ap suc (elements-stop items more some)
elements-stop (Close dim ∷ items) more some = refl

-- an element of the first items is the same, whatever comes behind them
pub first-same : (items more : List Item) (n : ℕ) → n < elements_of items → first_word (drop n (items ++ more)) ≡ first_word (drop n items)
first-same [] more n less = absurd (omega (arith, less))
first-same (Elem word ∷ items) more zero less = refl
first-same (Elem word ∷ items) more (suc n) less = first-same items more n (omega (arith, less))
first-same (Close dim ∷ items) more n less = absurd (omega (arith, less))

-- an element stands behind fewer of them
pub element-behind : (items : List Item) (n : ℕ) → n < elements_of items → 0 < length (behind_run 0 (drop n items))
element-behind [] n less = absurd (omega (arith, less))
element-behind (Elem word ∷ items) zero less = omega arith
element-behind (Elem word ∷ items) (suc n) less = element-behind items n (omega (arith, less))
element-behind (Close dim ∷ items) n less = absurd (omega (arith, less))

-- where all items are elements, the last is none that closes
pub elements-all : (items : List Item) (dim : ℕ) → length items ≤ elements_of items → tail_of items ≡ Some (tails.Close dim) → ⊥
elements-all [] dim all tail = cc
elements-all (Elem word ∷ []) dim all tail = cc
elements-all (Elem word ∷ j ∷ more) dim all tail = elements-all (j ∷ more) dim (omega (arith, all)) tail
elements-all (Close d ∷ more) dim all tail = omega (arith, all)

-- without dimensions all items are elements
pub flat-elements : (p : Parameters) (items : List Item) → p.dims ≡ 0 → AreItems p items → elements_of items ≡ length items
flat-elements p [] none fit = refl
flat-elements p (Elem word ∷ more) none fit = ap suc (flat-elements p more none fit.1)
flat-elements p (Close dim ∷ more) none fit = let less = fit.0 in absurd (omega (arith, less, none))

-- ---- runs of Closes

-- a run that an item ends is the same, whatever comes behind
abbrev pub SameRun : ℕ → List Item → List Item → Type 0
SameRun least items more = (run_from least (items ++ more) ≡ run_from least items) × (behind_run least (items ++ more) ≡ behind_run least items ++ more)

pub run-stops : (least : ℕ) (items more : List Item) → 0 < length (behind_run least items) → SameRun least items more
run-stops least [] more some = absurd (omega (arith, some))
run-stops least (Elem word ∷ items) more some = (refl, refl)
run-stops least (Close dim ∷ items) more some = by_test (nat_le least dim) some (run-stops (suc dim) items more)
  where
    by_test : (test : Bool) → 0 < length (if test then behind_run (suc dim) items else Close dim ∷ items) → (0 < length (behind_run (suc dim) items) → SameRun (suc dim) items more) →
        (((if test then dim ∷ run_from (suc dim) (items ++ more) else []) ≡ (if test then dim ∷ run_from (suc dim) items else []))
        × ((if test then behind_run (suc dim) (items ++ more) else Close dim ∷ (items ++ more)) ≡ (if test then behind_run (suc dim) items else Close dim ∷ items) ++ more))
    by_test true s later = let run = later s in (ap (λ (l : List ℕ). dim ∷ l) run.0, run.1)
    by_test false s later = (refl, refl)

-- items of fewer dimensions begin with no such run
abbrev pub NoRun : ℕ → List Item → Type 0
NoRun least items = (run_from least items ≡ []) × (behind_run least items ≡ items)

pub run-none : (p : Parameters) (least : ℕ) (items : List Item) → least ≡ p.dims → AreItems p items → NoRun least items
run-none p least [] is fit = (refl, refl)
run-none p least (Elem word ∷ more) is fit = (refl, refl)
run-none p least (Close dim ∷ more) is fit =
    let less = fit.0 in
    let test : nat_le least dim ≡ false = grind (arith, nat_tests) in
    (ap (λ (b : Bool). if b then dim ∷ run_from (suc dim) more else []) test, ap (λ (b : Bool). if b then behind_run (suc dim) more else Close dim ∷ more) test)

-- a run up to the outermost dimension is the same, whatever comes behind
pub run-ends : (p : Parameters) (least : ℕ) (items more : List Item) (dim : ℕ) → suc dim ≡ p.dims → AreItems p more → length (behind_run least items) ≡ 0 →
    tail_of items ≡ Some (tails.Close dim) → SameRun least items more
run-ends p least [] more dim last fit over tail = cc
run-ends p least (Elem word ∷ items) more dim last fit over tail = absurd (omega (arith, over))
run-ends p least (Close d ∷ []) more dim last fit over tail = by_test (nat_le least d) over
  where
    none : NoRun (suc d) more
    none = let e : d ≡ dim = cc in run-none p (suc d) more (omega (arith, e, last)) fit

    by_test : (test : Bool) → length (if test then behind_run (suc d) [] else Close d ∷ []) ≡ 0 →
        (((if test then d ∷ run_from (suc d) more else []) ≡ (if test then d ∷ run_from (suc d) [] else []))
        × ((if test then behind_run (suc d) more else Close d ∷ more) ≡ (if test then behind_run (suc d) [] else Close d ∷ []) ++ more))
    by_test true o = (ap (λ (l : List ℕ). d ∷ l) none.0, none.1)
    by_test false o = absurd (omega (arith, o))
run-ends p least (Close d ∷ j ∷ items) more dim last fit over tail = by_test (nat_le least d) over (λ o. run-ends p (suc d) (j ∷ items) more dim last fit o tail)
  where
    by_test : (test : Bool) → length (if test then behind_run (suc d) (j ∷ items) else Close d ∷ j ∷ items) ≡ 0 → (length (behind_run (suc d) (j ∷ items)) ≡ 0 → SameRun (suc d) (j ∷ items) more) →
        (((if test then d ∷ run_from (suc d) (j ∷ items ++ more) else []) ≡ (if test then d ∷ run_from (suc d) (j ∷ items) else []))
        × ((if test then behind_run (suc d) (j ∷ items ++ more) else Close d ∷ j ∷ items ++ more) ≡ (if test then behind_run (suc d) (j ∷ items) else Close d ∷ j ∷ items) ++ more))
    by_test true o later = let run = later o in (ap (λ (l : List ℕ). d ∷ l) run.0, run.1)
    by_test false o later = absurd (omega (arith, o))

-- the last of the items behind some of them is the last of all
pub tail-drop : (items : List Item) (n : ℕ) → n < length items → tail_of (drop n items) ≡ tail_of items
tail-drop [] n less = absurd (omega (arith, less))
tail-drop (i ∷ more) zero less = refl
tail-drop (i ∷ []) (suc n) less = absurd (omega (arith, less))
tail-drop (i ∷ j ∷ more) (suc n) less = tail-drop (j ∷ more) n (omega (arith, less))
