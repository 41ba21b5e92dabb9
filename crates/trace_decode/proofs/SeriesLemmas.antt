-- Items that are nested and leave nothing open are the flat form of a series: the steps of a builder, item by item.
use Rattle.std.proofs.Common.{◌≡◌, ◌∙◌, ◌⊎◌, inl, inr, ℕ, suc, ◌+◌, ◌-◌, ◌<◌, ◌≤◌, ◌==◌, nat_le, Bool, true, false, not, List, [], ◌∷◌, ◌++◌, length, slice_get, refl, sym, ap, subst, arith, append_assoc, append-nil}
use Rattle.std.specs.List.{All}
use Rattle.std.proofs.lemmas.Bool.{cases_lt}
use Rattle.std.proofs.lemmas.Bool.Decides.{nat_tests}
use Rattle.std.proofs.lemmas.List.Elements.{All-head, All-tail}
use Rattle.physical_stream.specs.Shape.{IsNested, is_misplaced, is_whole, may_close, tail_of}
use Rattle.physical_stream.specs.declared.item.Item.{Item}
use Rattle.physical_stream.specs.declared.item.Item.TheVariants as items
use Rattle.nest_shape.specs.Building.{Descends, Keeps, Takes}
use Rattle.nest_shape.specs.Shape.{ClosesBelow, IsSeriesOf}
use Rattle.nest_shape.specs.declared.builder.Open.{Open}
use Rattle.nest_shape.specs.declared.nest.Nest.{Nest}
use Rattle.nest_shape.specs.declared.nest.Nest.TheVariants as nests
use Rattle.nest_shape.proofs.BuildingLemmas.{AddsTo-taken, IsSeriesOf-all, Keeps-close, Keeps-element, Keeps-none, LeavesOpen-level, Takes-last, Takes-none, last-with, may_close-level}
use Rattle.nest_shape.proofs.LawLemmas.{nests_item_by_item}
use Rattle.trace_decode.proofs.JoinLemmas.{not_open}
use Rattle.trace_decode.proofs.RowLemmas.{same_some}

-- ---- what is open

-- the last of them, where there is one
record EndsWith (begun : List Open) : Type 0 where
  front : List Open
  innermost : Open
  is : begun ≡ front ++ innermost ∷ []

ends_with : (begun : List Open) → (begun ≡ []) ⊎ EndsWith begun
ends_with [] = inl refl
ends_with (first ∷ more) = inr (by_rest (ends_with more))
  where
    by_rest : (more ≡ []) ⊎ EndsWith more → EndsWith (first ∷ more)
    by_rest (inl none) = record { front = []; innermost = first; is = ap (λ (l : List Open). first ∷ l) none }
    by_rest (inr rest) = record { front = first ∷ rest.front; innermost = rest.innermost; is = ap (λ (l : List Open). first ∷ l) rest.is }

-- the nests of a depth, taken out of what is open, where nothing of a lower one is
record TakesOut (dims depth : ℕ) (begun : List Open) : Type 0 where
  left : List Open
  members : List Nest
  takes : depth ≤ dims → Descends (suc dims) begun depth → Takes dims depth begun left members

takes_out : (dims depth : ℕ) (begun : List Open) → TakesOut dims depth begun
takes_out dims depth begun = by_last (ends_with begun)
  where
    none_is_last : begun ≡ [] → (front : List Open) (innermost : Open) → begun ≡ front ++ innermost ∷ [] → (innermost.depth == depth) ≡ false
    none_is_last none front innermost is = let found = sym (ap (λ (l : List Open). slice_get l (length begun - 1)) none) ∙ last-with front innermost begun is in absurd cc

    by_test : (last : EndsWith begun) (test : Bool) → (last.innermost.depth == depth) ≡ test → TakesOut dims depth begun
    by_test last true here = record { left = last.front; members = last.innermost.members; takes = λ within falls. Takes-last dims depth begun last.front last.innermost last.is here falls }
    by_test last false other = record {
      left = begun;
      members = [];
      takes = λ within falls. Takes-none dims depth begun [] within refl
          (λ front innermost is. ap (λ (o : Open). o.depth == depth) (same_some (sym (last-with front innermost begun is) ∙ last-with last.front last.innermost begun last.is)) ∙ other) falls;
    }

    by_last : (begun ≡ []) ⊎ EndsWith begun → TakesOut dims depth begun
    by_last (inl none) = record { left = begun; members = []; takes = λ within falls. Takes-none dims depth begun [] within refl (none_is_last none) falls }
    by_last (inr last) = by_test last (last.innermost.depth == depth) refl

-- ---- item by item

-- the state that a builder has after these items
record IsKept (dims : ℕ) (done : List Item) : Type 0 where
  level : ℕ
  begun : List Open
  keeps : Keeps dims level begun done

after_element : (dims : ℕ) (done : List Item) (word : List Bool) → IsKept dims done → IsKept dims (done ++ items.Elem word ∷ [])
after_element dims done word kept =
    let out = takes_out dims 0 kept.begun in
    let more = out.members ++ nests.Leaf word ∷ [] in
    let new = out.left ++ record { depth = 0; members = more } ∷ [] in
    record {
      level = 0;
      begun = new;
      keeps =
          Keeps-element dims kept.level kept.begun new done word kept.keeps
          (λ falls deep. AddsTo-taken dims 0 kept.begun out.left new out.members more (nests.Leaf word) (out.takes (omega arith) falls) refl refl deep);
    }

placed_below : (a b : ℕ) → nat_le a b ≡ true → a ≤ b
placed_below a b test = grind (arith, nat_tests)

after_close : (dims : ℕ) (done : List Item) (dim : ℕ) → dim < dims → may_close (tail_of done) dim ≡ true → IsKept dims done → IsKept dims (done ++ items.Close dim ∷ [])
after_close dims done dim inside placed kept =
    let low : dim ≤ kept.level = placed_below dim kept.level (may_close-level dims (tail_of done) kept.level dim inside kept.keeps.tail ∙ placed) in
    let out = takes_out dims dim kept.begun in
    let upper = takes_out dims (dim + 1) out.left in
    let more = upper.members ++ nests.List out.members ∷ [] in
    let new = upper.left ++ record { depth = dim + 1; members = more } ∷ [] in
    record {
      level = dim + 1;
      begun = new;
      keeps =
          Keeps-close dims kept.level dim (dim + 1) kept.begun out.left new out.members done kept.keeps inside low refl (λ falls. out.takes (omega (arith, inside)) falls)
          (λ falls deep. AddsTo-taken dims (dim + 1) out.left upper.left new upper.members more (nests.List out.members) (upper.takes (omega (arith, inside)) falls) refl refl deep);
    }

placed_so : (tail : Bool) → not tail ≡ false → tail ≡ true
placed_so true is = refl
placed_so false is = cc

after_item : (dims : ℕ) (done : List Item) (item : Item) → ClosesBelow dims item → is_misplaced (tail_of done) item ≡ false → IsKept dims done → IsKept dims (done ++ item ∷ [])
after_item dims done (items.Elem word) below placed kept = after_element dims done word kept
after_item dims done (items.Close dim) below placed kept = after_close dims done dim below (placed_so (may_close (tail_of done) dim) placed) kept

-- a front of nested items is nested
nested_front : (done more : List Item) → IsNested (done ++ more) → IsNested done
nested_front done more nested = λ front rest dim is. nested front (rest ++ more) dim (ap (λ (l : List Item). l ++ more) is ∙ append_assoc front (items.Close dim ∷ rest) more)

after_items : (dims : ℕ) (front rest : List Item) → All (ClosesBelow dims) rest → IsNested (front ++ rest) → IsKept dims front → IsKept dims (front ++ rest)
after_items dims front [] below nested kept = subst (IsKept dims) (sym (append-nil front)) kept
after_items dims front (item ∷ more) below nested kept =
    let same : (front ++ item ∷ []) ++ more ≡ front ++ item ∷ more = append_assoc front (item ∷ []) more in
    let so_far = subst IsNested (sym same) nested in
    let placed = ((nests_item_by_item front item).0 (nested_front (front ++ item ∷ []) more so_far)).1 in
    subst (IsKept dims) same
    (after_items dims (front ++ item ∷ []) more (All-tail (ClosesBelow dims) item more below) so_far (after_item dims front item (All-head (ClosesBelow dims) item more below) placed kept))

-- ---- the series

pub series_of_items : (dims : ℕ) (done : List Item) → All (ClosesBelow dims) done → IsNested done → is_whole dims (tail_of done) ≡ true → (series : List Nest) × IsSeriesOf dims done series
series_of_items dims done below nested whole = by_level (cases_lt kept.level dims)
  where
    kept : IsKept dims done
    kept = after_items dims [] done below nested (record { level = dims; begun = []; keeps = Keeps-none dims [] refl })

    by_level : (kept.level < dims) ⊎ (dims ≤ kept.level) → (series : List Nest) × IsSeriesOf dims done series
    by_level (inl less) = absurd (not_open dims done kept.level whole (LeavesOpen-level dims kept.level kept.begun done kept.keeps (λ same. omega (arith, less, same))))
    by_level (inr more) =
        let out = takes_out dims dims kept.begun in
        (out.members, IsSeriesOf-all dims kept.level kept.begun out.left out.members done kept.keeps (omega (arith, more, kept.keeps.within)) (λ falls. out.takes (omega arith) falls))
