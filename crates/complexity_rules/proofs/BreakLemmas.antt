-- A walk over the items of a transfer decides rules Empty and Nest, and the last bits of the transfer decide rule End.
use Rattle.std.proofs.Common.{◌≡◌, ◌∙◌, ◌↔◌, ℕ, inl, inr, ◌⊎◌, Bool, true, false, not, ◌||◌, ◌&&◌, IsTrue, List, [], ◌∷◌, ◌++◌, Option, Some, refl, sym, ap, subst, arith}
use Rattle.std.specs.List.{All}
use Rattle.std.proofs.lemmas.Bool.{and_parts, and_from, not-true, not_from_false}
use Rattle.std.proofs.lemmas.List.{append-nil}
use Rattle.std.proofs.lemmas.List.Elements.{All-nil}
use Rattle.physical_stream.specs.Params.{Parameters}
use Rattle.physical_stream.specs.Items.{items_of}
use Rattle.physical_stream.specs.Shape.{kind_of, tail_of, tail_over, closes_empty, may_close, has_misplaced}
use Rattle.physical_stream.specs.Breaks.{BreaksEmpty, BreaksNest, FirstClose, IsElem}
use Rattle.physical_stream.specs.declared.item.Item.{Item}
use Rattle.physical_stream.specs.declared.item.Item.TheVariants as items
use Rattle.physical_stream.specs.declared.item.Tail.{Tail}
use Rattle.physical_stream.specs.declared.transfer.Transfer.{Transfer}
use Rattle.physical_stream.proofs.ShapeLemmas.{tail_of-over, has_misplaced-there}
use Rattle.complexity_rules.specs.Walk.{has_element, first_close, misses_empty, Finds}
use Rattle.complexity_rules.specs.declared.walk.Walk.{Walk}
use Rattle.complexity_rules.proofs.LaneLemmas.{IsInactive-has_element, has_element-IsInactive}

-- ---- Nest

-- a Close that stands where it may not, in a list of items after a tail
record Misplaced (tail : Option Tail) (is : List Item) : Type 0 where
  front : List Item
  dim : ℕ
  rest : List Item
  splits : is ≡ front ++ items.Close dim ∷ rest
  wrong : may_close (tail_over tail front) dim ≡ false

find_misplaced : (tail : Option Tail) (is : List Item) → has_misplaced tail is ≡ true → Misplaced tail is
find_misplaced tail [] some = cc
find_misplaced tail (items.Elem word ∷ more) some =
    let found = find_misplaced (Some (kind_of (items.Elem word))) more some in
    record { front = items.Elem word ∷ found.front; dim = found.dim; rest = found.rest; splits = ap (λ (is : List Item). items.Elem word ∷ is) found.splits; wrong = found.wrong }
find_misplaced tail (items.Close dim ∷ more) some = by_first (may_close tail dim) refl (λ later. find_misplaced (Some (kind_of (items.Close dim))) more later)
  where
    by_first : (may : Bool) → may_close tail dim ≡ may → (has_misplaced (Some (kind_of (items.Close dim))) more ≡ true → Misplaced (Some (kind_of (items.Close dim))) more) →
        Misplaced tail (items.Close dim ∷ more)
    by_first false is later = record { front = []; dim = dim; rest = more; splits = refl; wrong = is }
    by_first true is later =
        let found = later (ap (λ (b : Bool). not b || has_misplaced (Some (kind_of (items.Close dim))) more) (sym is) ∙ some) in
        record { front = items.Close dim ∷ found.front; dim = found.dim; rest = found.rest; splits = ap (λ (is : List Item). items.Close dim ∷ is) found.splits; wrong = found.wrong }

pub BreaksNest-misplaced : (p : Parameters) (done : List Item) (t : Transfer) → IsTrue (has_misplaced (tail_of done) (items_of p t)) ↔ BreaksNest p done t
BreaksNest-misplaced p done t = (
  λ some.
      let found = find_misplaced (tail_of done) (items_of p t) some in
      record {
        front = found.front;
        dim = found.dim;
        rest = found.rest;
        splits = found.splits;
        misplaced = ap (λ (tail : Option Tail). may_close tail found.dim) (tail_of-over done found.front) ∙ found.wrong;
      },
  λ b.
      ap (has_misplaced (tail_of done)) b.splits
      ∙ has_misplaced-there (tail_of done) b.front b.rest b.dim (ap (λ (tail : Option Tail). may_close tail b.dim) (sym (tail_of-over done b.front)) ∙ b.misplaced),
)

-- ---- Empty

-- without elements, what closes first stands first
without_elements : (is : List Item) → has_element is ≡ false → (is ≡ []) ⊎ ((dim : ℕ) × (rest : List Item) × (is ≡ items.Close dim ∷ rest))
without_elements [] none = inl refl
without_elements (items.Elem word ∷ more) none = cc
without_elements (items.Close dim ∷ more) none = inr (dim, more, refl)

first_of_closes : (is front rest : List Item) (dim : ℕ) → has_element is ≡ false → All IsElem front → is ≡ front ++ items.Close dim ∷ rest → front ≡ []
first_of_closes is [] rest dim none elements splits = refl
first_of_closes is (items.Elem word ∷ front) rest dim none elements splits = let clash : false ≡ true = sym none ∙ ap has_element splits in cc
first_of_closes is (items.Close d ∷ front) rest dim none elements splits = absurd (elements 0 (items.Close d) (omega arith))

misses_first : (done is : List Item) → has_element is ≡ false → misses_empty (tail_of done) (first_close is) ≡ true →
    (is ≡ []) ⊎ ((first : FirstClose done is) × (closes_empty (tail_of (done ++ first.front)) first.dim ≡ false))
misses_first done is none misses = by_first (without_elements is none)
  where
    by_first : (is ≡ []) ⊎ ((dim : ℕ) × (rest : List Item) × (is ≡ items.Close dim ∷ rest)) →
        (is ≡ []) ⊎ ((first : FirstClose done is) × (closes_empty (tail_of (done ++ first.front)) first.dim ≡ false))
    by_first (inl nothing) = inl nothing
    by_first (inr close) = inr (
      record { front = []; dim = close.0; rest = close.1; elements = All-nil IsElem; splits = close.2 },
      ap (λ (before : List Item). closes_empty (tail_of before) close.0) (append-nil done)
          ∙ not-true (closes_empty (tail_of done) close.0) (ap (λ (more : List Item). misses_empty (tail_of done) (first_close more)) (sym close.2) ∙ misses),
    )

first_misses : (done is : List Item) → has_element is ≡ false →
    (is ≡ []) ⊎ ((first : FirstClose done is) × (closes_empty (tail_of (done ++ first.front)) first.dim ≡ false)) → misses_empty (tail_of done) (first_close is) ≡ true
first_misses done is none (inl nothing) = ap (λ (more : List Item). misses_empty (tail_of done) (first_close more)) nothing
first_misses done is none (inr wrong) =
    let at_once : wrong.0.front ≡ [] = first_of_closes is wrong.0.front wrong.0.rest wrong.0.dim none wrong.0.elements wrong.0.splits in
    let begins : is ≡ items.Close wrong.0.dim ∷ wrong.0.rest = wrong.0.splits ∙ ap (λ (front : List Item). front ++ items.Close wrong.0.dim ∷ wrong.0.rest) at_once in
    let clash : closes_empty (tail_of done) wrong.0.dim ≡ false =
    ap (λ (before : List Item). closes_empty (tail_of before) wrong.0.dim) (sym (append-nil done) ∙ ap (λ (front : List Item). done ++ front) (sym at_once)) ∙ wrong.1 in
    ap (λ (more : List Item). misses_empty (tail_of done) (first_close more)) begins ∙ not_from_false (closes_empty (tail_of done) wrong.0.dim) clash

pub BreaksEmpty-misses : (p : Parameters) (done : List Item) (t : Transfer) →
    IsTrue (not (has_element (items_of p t)) && misses_empty (tail_of done) (first_close (items_of p t))) ↔ BreaksEmpty p done t
BreaksEmpty-misses p done t = (
  λ holds.
      let parts = and_parts (not (has_element (items_of p t))) (misses_empty (tail_of done) (first_close (items_of p t))) holds in
      let none : has_element (items_of p t) ≡ false = not-true (has_element (items_of p t)) parts.0 in
      record { inactive = IsInactive-has_element p t none; closes = misses_first done (items_of p t) none parts.1 },
  λ b.
      let none : has_element (items_of p t) ≡ false = has_element-IsInactive p t b.inactive in
      and_from (not (has_element (items_of p t))) (misses_empty (tail_of done) (first_close (items_of p t))) (not_from_false (has_element (items_of p t)) none)
      (first_misses done (items_of p t) none b.closes),
)

-- ---- the tests

pub empty_test : (p : Parameters) (done : List Item) (t : Transfer) (tail : Option Tail) (walk : Walk) (test : Bool) → tail ≡ tail_of done → Finds p.dims tail (items_of p t) walk →
    test ≡ (not walk.active && misses_empty tail walk.first_close) → IsTrue test ↔ BreaksEmpty p done t
empty_test p done t tail walk test last_is found is =
    let same : test ≡ (not (has_element (items_of p t)) && misses_empty (tail_of done) (first_close (items_of p t))) =
    is ∙ ap (λ (b : Bool). not b && misses_empty tail walk.first_close) found.active
    ∙ ap (λ (first : Option ℕ). not (has_element (items_of p t)) && misses_empty tail first) found.first
    ∙ ap (λ (o : Option Tail). not (has_element (items_of p t)) && misses_empty o (first_close (items_of p t))) last_is in
    subst (λ (b : Bool). IsTrue b ↔ BreaksEmpty p done t) (sym same) (BreaksEmpty-misses p done t)

pub nest_test : (p : Parameters) (done : List Item) (t : Transfer) (tail : Option Tail) (walk : Walk) → tail ≡ tail_of done → Finds p.dims tail (items_of p t) walk →
    IsTrue walk.misplaced ↔ BreaksNest p done t
nest_test p done t tail walk last_is found =
    subst (λ (b : Bool). IsTrue b ↔ BreaksNest p done t) (sym (found.misplaced ∙ ap (λ (o : Option Tail). has_misplaced o (items_of p t)) last_is)) (BreaksNest-misplaced p done t)
