-- How far the front of a list of items reaches, and when the items are due.
use Rattle.std.proofs.Common.{◌≡◌, ◌∙◌, ℕ, zero, suc, ◌+◌, ◌-◌, ◌<◌, ◌≤◌, Bool, true, false, ◌==◌, nat_le, nat_lt, if◌then◌else◌, List, [], ◌∷◌, ◌++◌, length, take, drop, slice_get, min, Some, refl, sym, ap, subst, append_assoc, add-one, get_or, arith}
use Rattle.std.proofs.lemmas.Bool.Decides.{nat_tests}
use Rattle.std.proofs.lemmas.List.{length-append, length-drop, length-take-le, take-append-drop, take-append-le}
use Rattle.std.proofs.lemmas.Option.{slice_get_within}
use Rattle.physical_stream.specs.Params.{Parameters}
use Rattle.physical_stream.specs.Shape.{tail_of}
use Rattle.physical_stream.proofs.ShapeLemmas.{tail_of-over}
use Rattle.physical_stream.specs.declared.item.Item.{Item}
use Rattle.physical_stream.specs.declared.item.Item.TheVariants.{Elem, Close}
use Rattle.handshake.proofs.RunLemmas.{take-next}
use Rattle.scheduler.specs.Laws.{AreItems}
use Rattle.scheduler.specs.Planned.{Load, behind_run, elements_of}
use Rattle.scheduler.proofs.PlanLemmas.{run-zero}
use Rattle.reshape.specs.Fronts.{above_tail, goes_on, left_behind, no_front, with_item, IsBegun, IsFront}
use Rattle.reshape.specs.Held.{held_in}
use Rattle.reshape.specs.Reshaping.{behind_front, items_in_front}
use Rattle.reshape.specs.declared.front.Front.{Front}
use Rattle.reshape.proofs.FrontLoads.{front-load-is}

-- ---- the items behind a front

behind-run : (lanes : ℕ) (front : Front) (items : List Item) → 0 < front.least → left_behind lanes front items ≡ behind_run front.least items
behind-run lanes front [] some = refl
behind-run lanes front (Elem word ∷ more) some = let none : (front.least == 0) ≡ false = grind (arith, nat_tests) in rw none refl
behind-run lanes front (Close dim ∷ more) some = by_test (behind-run lanes (with_item front (Close dim)) more (omega arith)) (nat_le front.least dim)
  where
    by_test : left_behind lanes (with_item front (Close dim)) more ≡ behind_run (dim + 1) more → (test : Bool) →
        (if test then left_behind lanes (with_item front (Close dim)) more else Close dim ∷ more) ≡ (if test then behind_run (suc dim) more else Close dim ∷ more)
    by_test earlier true = earlier ∙ ap (λ (n : ℕ). behind_run n more) (add-one dim)
    by_test earlier false = refl

behind-elements : (lanes elements size : ℕ) (items : List Item) →
    left_behind lanes (record { elements = elements; least = 0; size = size }) items ≡ behind_run 0 (drop (min (elements_of items) (lanes - elements)) items)
behind-elements lanes elements size [] = let none : min 0 (lanes - elements) ≡ 0 = omega arith in rw none refl
behind-elements lanes elements size (Elem word ∷ more) = by_test (behind-elements lanes (elements + 1) (size + 1) more) (nat_lt elements lanes) refl
  where
    by_test : left_behind lanes (record { elements = elements + 1; least = 0; size = size + 1 }) more ≡ behind_run 0 (drop (min (elements_of more) (lanes - (elements + 1))) more) → (test : Bool) → nat_lt elements lanes ≡ test →
        (if test then left_behind lanes (record { elements = elements + 1; least = 0; size = size + 1 }) more else Elem word ∷ more)
        ≡ behind_run 0 (drop (min (suc (elements_of more)) (lanes - elements)) (Elem word ∷ more))
    by_test earlier true is =
        let less : elements < lanes = grind (arith, nat_tests) in
        let count : suc (min (elements_of more) (lanes - (elements + 1))) ≡ min (suc (elements_of more)) (lanes - elements) = omega (arith, less) in
        earlier ∙ ap (λ (k : ℕ). behind_run 0 (drop k (Elem word ∷ more))) count
    by_test earlier false is =
        let all : lanes ≤ elements = grind (arith, nat_tests) in
        let count : 0 ≡ min (suc (elements_of more)) (lanes - elements) = omega (arith, all) in
        ap (λ (k : ℕ). behind_run 0 (drop k (Elem word ∷ more))) count
behind-elements lanes elements size (Close dim ∷ more) =
    let all : nat_le 0 dim ≡ true = grind (arith, nat_tests) in
    let none : min 0 (lanes - elements) ≡ 0 = omega arith in
    rw (all, none) (behind-run lanes (record { elements = elements; least = dim + 1; size = size + 1 }) more (omega arith) ∙ ap (λ (n : ℕ). behind_run n more) (add-one dim) ∙ sym (run-zero dim more))

behind-is : (p : Parameters) (items : List Item) → 1 ≤ p.lanes → behind_front p items ≡ left_behind p.lanes no_front items
behind-is p items some =
    let all : p.lanes ≡ p.lanes - 0 = omega arith in
    ap (λ (l : Load). l.rest) (front-load-is p some items) ∙ ap (λ (n : ℕ). behind_run 0 (drop (min (elements_of items) n) items)) all ∙ sym (behind-elements p.lanes 0 0 items)

-- ---- lists of items

elements-within : (items : List Item) → elements_of items ≤ length items
elements-within [] = omega arith
elements-within (Elem word ∷ more) = omega (arith, elements-within more)
elements-within (Close dim ∷ more) = omega arith

elements-full : (one other : List Item) → elements_of one ≡ length one → elements_of (one ++ other) ≡ length one + elements_of other
elements-full [] other all = omega arith
elements-full (Elem word ∷ more) other all = omega (arith, elements-full more other (omega (arith, all)))
elements-full (Close dim ∷ more) other all = absurd (omega (arith, all))

elements-part : (one other : List Item) → elements_of one < length one → elements_of (one ++ other) ≡ elements_of one
elements-part [] other less = absurd (omega (arith, less))
elements-part (Elem word ∷ more) other less = omega (arith, elements-part more other (omega (arith, less)))
elements-part (Close dim ∷ more) other less = refl

elements-close : (items : List Item) (dim : ℕ) → elements_of (items ++ Close dim ∷ []) ≡ elements_of items
elements-close [] dim = refl
elements-close (Elem word ∷ more) dim = omega (arith, elements-close more dim)
elements-close (Close other ∷ more) dim = refl

pub held-append : (one other : List Item) → held_in (one ++ other) ≡ held_in one + held_in other
held-append [] other = omega arith
held-append (Elem word ∷ more) other = omega (arith, held-append more other)
held-append (Close dim ∷ more) other = held-append more other

head-at : (items : List Item) (n : ℕ) (item : Item) (more : List Item) → drop n items ≡ item ∷ more → slice_get items n ≡ Some item
head-at [] zero item more is = cc
head-at [] (suc n) item more is = cc
head-at (first ∷ items) zero item more is = let same : first ≡ item = cc in ap Some same
head-at (first ∷ items) (suc n) item more is = head-at items n item more is

-- ---- a front that is begun

pub begun-none : (p : Parameters) (items : List Item) → IsBegun p items no_front
begun-none p items = record {
  within = omega arith;
  behind = λ more. refl;
  elements = refl;
  held = refl;
  flat = λ is. refl;
  steep = λ less. absurd (omega (arith, less));
  last = refl;
  few = omega arith;
  low = omega arith;
  short = omega arith;
}

-- only the first items count
pub begun-by : (p : Parameters) (items other : List Item) (front : Front) → take front.size other ≡ take front.size items → front.size ≤ length other → IsBegun p items front → IsBegun p other front
begun-by p items other front same within begun = record {
  within = within;
  behind = λ more. ap (λ (l : List Item). left_behind p.lanes no_front (l ++ more)) same ∙ begun.behind more;
  elements = ap elements_of same ∙ begun.elements;
  held = ap held_in same ∙ begun.held;
  flat = begun.flat;
  steep = begun.steep;
  last = begun.last ∙ ap (λ (l : List Item). above_tail (tail_of l)) (sym same);
  few = begun.few;
  low = begun.low;
  short = begun.short;
}

pub begun-append : (p : Parameters) (items more : List Item) (front : Front) → IsBegun p items front → IsBegun p (items ++ more) front
begun-append p items more front begun =
    begun-by p items (items ++ more) front (take-append-le front.size items more begun.within) (let w = begun.within in omega (arith, w, length-append items more)) begun

module _ (p : Parameters) (items : List Item) (front : Front) (begun : IsBegun p items front) where
  size-least : front.elements ≤ front.size
  size-least = by_least front.least refl
    where
      by_least : (least : ℕ) → front.least ≡ least → front.elements ≤ front.size
      by_least zero is = let e = begun.flat is in omega (arith, e)
      by_least (suc least) is = let l = begun.steep (omega (arith, is)) in omega (arith, l)

  module _ (item : Item) (there : slice_get items front.size ≡ Some item) where
    first-next : take (front.size + 1) items ≡ take front.size items ++ item ∷ []
    first-next = ap (λ (n : ℕ). take n items) (add-one front.size) ∙ take-next items front.size item there

    long : length (take front.size items) ≡ front.size
    long = length-take-le front.size items begun.within

    next-within : front.size + 1 ≤ length items
    next-within = let less = slice_get_within items front.size item there in omega (arith, less)

    next-behind : goes_on p.lanes front item ≡ true → (more : List Item) → left_behind p.lanes no_front (take (front.size + 1) items ++ more) ≡ left_behind p.lanes (with_item front item) more
    next-behind goes more =
        ap (λ (l : List Item). left_behind p.lanes no_front (l ++ more)) first-next ∙ ap (left_behind p.lanes no_front) (append_assoc (take front.size items) (item ∷ []) more)
        ∙ begun.behind (item ∷ more) ∙ rw goes refl

  pub begun-more : (item : Item) → slice_get items front.size ≡ Some item → goes_on p.lanes front item ≡ true → AreItems p (item ∷ []) → IsBegun p items (with_item front item)
  begun-more (Elem word) there goes fit =
      let low : front.least ≡ 0 = grind (arith, nat_tests) in
      let less : front.elements < p.lanes = grind (arith, nat_tests) in
      let flat = begun.flat low in
      let e = begun.elements in
      let h = begun.held in
      let l = long (Elem word) there in
      let short = begun.short in
      record {
        within = next-within (Elem word) there;
        behind = next-behind (Elem word) there goes;
        elements = ap elements_of (first-next (Elem word) there) ∙ omega (arith, elements-full (take front.size items) (Elem word ∷ []) (omega (arith, e, flat, l)), e, flat, l);
        held = ap held_in (first-next (Elem word) there) ∙ omega (arith, held-append (take front.size items) (Elem word ∷ []), h);
        flat = λ is. ap (λ (n : ℕ). n + 1) flat;
        steep = λ some. absurd (omega (arith, some, low));
        last = low ∙ sym (ap (λ (l : List Item). above_tail (tail_of l)) (first-next (Elem word) there) ∙ ap above_tail (tail_of-over (take front.size items) (Elem word ∷ [])));
        few = omega (arith, less);
        low = begun.low;
        short = omega (arith, short);
      }
  begun-more (Close dim) there goes fit =
      let above : front.least ≤ dim = grind (arith, nat_tests) in
      let within = fit.0 in
      let h = begun.held in
      let short = begun.short in
      let many = size-least in
      record {
        within = next-within (Close dim) there;
        behind = next-behind (Close dim) there goes;
        elements = ap elements_of (first-next (Close dim) there) ∙ elements-close (take front.size items) dim ∙ begun.elements;
        held = ap held_in (first-next (Close dim) there) ∙ omega (arith, held-append (take front.size items) (Close dim ∷ []), h);
        flat = λ is. absurd (omega (arith, is));
        steep = λ some. omega (arith, many);
        last = sym (ap (λ (l : List Item). above_tail (tail_of l)) (first-next (Close dim) there) ∙ ap above_tail (tail_of-over (take front.size items) (Close dim ∷ [])));
        few = begun.few;
        low = omega (arith, within);
        short = omega (arith, short, above);
      }

-- ---- the front

module _ (p : Parameters) (some : 1 ≤ p.lanes) (items : List Item) (front : Front) (is_front : IsFront p items front) where
  begun : IsBegun p items front
  begun = is_front.begun

  stays : (left : List Item) → drop front.size items ≡ left → left_behind p.lanes front left ≡ left
  stays [] is = refl
  stays (item ∷ more) is = let stop = is_front.stops item (head-at items front.size item more is) in rw stop refl

  -- the items behind the front are those from its size on
  pub front-rest : behind_front p items ≡ drop front.size items
  front-rest =
      behind-is p items some ∙ ap (left_behind p.lanes no_front) (sym (take-append-drop front.size items)) ∙ begun.behind (drop front.size items) ∙ stays (drop front.size items) refl

  pub front-items : items_in_front p items ≡ take front.size items
  front-items =
      let w = begun.within in
      ap (λ (l : List Item). take (length items - length l) items) front-rest ∙ ap (λ (n : ℕ). take n items) (omega (arith, length-drop front.size items, w))

  -- it has as many elements as stand first, up to one for each lane
  pub front-count : min (elements_of items) p.lanes ≡ front.elements
  front-count = by_least front.least refl (drop front.size items) refl
    where
      whole : elements_of items ≡ elements_of (take front.size items ++ drop front.size items)
      whole = ap elements_of (sym (take-append-drop front.size items))

      by_least : (least : ℕ) → front.least ≡ least → (left : List Item) → drop front.size items ≡ left → min (elements_of items) p.lanes ≡ front.elements
      by_least (suc least) is left left_is =
          let few = begun.few in
          let e = begun.elements in
          let s = begun.steep (omega (arith, is)) in
          let long = length-take-le front.size items begun.within in
          let part = elements-part (take front.size items) (drop front.size items) (omega (arith, e, s, long)) in
          omega (arith, few, e, part, whole)
      by_least zero is left left_is = by_left left left_is
        where
          few : front.elements ≤ p.lanes
          few = begun.few

          full : elements_of items ≡ front.elements + elements_of (drop front.size items)
          full =
              let flat = begun.flat is in
              let e = begun.elements in
              let long = length-take-le front.size items begun.within in
              let f = elements-full (take front.size items) (drop front.size items) (omega (arith, e, flat, long)) in
              omega (arith, whole, f, flat, long)

          by_left : (left : List Item) → drop front.size items ≡ left → min (elements_of items) p.lanes ≡ front.elements
          by_left [] left_is = let none = ap elements_of left_is in omega (arith, few, full, none)
          by_left (Elem word ∷ more) left_is =
              let stop = is_front.stops (Elem word) (head-at items front.size (Elem word) more left_is) in
              let all : p.lanes ≤ front.elements = grind (arith, nat_tests) in
              omega (arith, few, full, all)
          by_left (Close dim ∷ more) left_is =
              let stop = is_front.stops (Close dim) (head-at items front.size (Close dim) more left_is) in
              let clash : ⊥ = grind (arith, nat_tests) in
              absurd clash

-- ---- item by item

pub fit-at : (p : Parameters) (items : List Item) (n : ℕ) (item : Item) → AreItems p items → n < length items → item ≡ get_or items n item → AreItems p (item ∷ [])
fit-at p [] n item fit less at = absurd (omega (arith, less))
fit-at p (Elem word ∷ items) zero item fit less at = subst (λ (i : Item). AreItems p (i ∷ [])) (sym at) (fit.0, tt)
fit-at p (Close dim ∷ items) zero item fit less at = subst (λ (i : Item). AreItems p (i ∷ [])) (sym at) (fit.0, tt)
fit-at p (Elem word ∷ items) (suc n) item fit less at = fit-at p items n item fit.1 (omega (arith, less)) at
fit-at p (Close dim ∷ items) (suc n) item fit less at = fit-at p items n item fit.1 (omega (arith, less)) at

module _ (p : Parameters) (items : List Item) (front : Front) (begun_is : IsBegun p items front) where
  pub front-stops : (item : Item) → slice_get items front.size ≡ Some item → goes_on p.lanes front item ≡ false → IsFront p items front
  front-stops item at stop = record {
    begun = begun_is;
    stops = λ other there. let same : item ≡ other = let both : Some item ≡ Some other = sym at ∙ there in cc in ap (goes_on p.lanes front) (sym same) ∙ stop;
  }

  pub front-over : length items ≤ front.size → IsFront p items front
  front-over most = record {
    begun = begun_is;
    stops = λ other there. let less = slice_get_within items front.size other there in absurd (omega (arith, less, most));
  }

-- each item begins a front
pub goes-none : (p : Parameters) → 1 ≤ p.lanes → (item : Item) → goes_on p.lanes no_front item ≡ true
goes-none p some (Elem word) = grind (arith, nat_tests)
goes-none p some (Close dim) = grind (arith, nat_tests)

pub with-size : (front : Front) (item : Item) → (with_item front item).size ≡ front.size + 1
with-size front (Elem word) = refl
with-size front (Close dim) = refl
