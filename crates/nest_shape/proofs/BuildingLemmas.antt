-- The state that a builder keeps of the items that it was given.
use Rattle.std.proofs.Common.{◌≡◌, ◌∙◌, ℕ, zero, suc, ◌+◌, ◌-◌, ◌<◌, ◌≤◌, Bool, true, false, not, cond, ◌==◌, nat_le, take, List, [], ◌∷◌, ◌++◌, length, get_or, set, Option, Some, None, refl, sym, ap, subst, append_assoc, arith}
use Rattle.std.specs.Prelude.{slice_get}
use Rattle.std.specs.List.{slice_index_or}
use Rattle.std.proofs.lemmas.List.{append-nil}
use Rattle.std.proofs.lemmas.Bool.{not-true, or_from}
use Rattle.std.proofs.lemmas.Bool.Decides.{nat_tests}
use Rattle.std.proofs.Math.Seq.{get_or-append_seam}
use Rattle.std.proofs.Math.ListN.{length-append}
use Rattle.std.proofs.lemmas.Option.{slice_get-get_or}
use Rattle.physical_stream.specs.Ending.{ending_after}
use Rattle.physical_stream.specs.Shape.{tail_of, tail_over, may_close, is_misplaced, has_misplaced}
use Rattle.physical_stream.specs.declared.end.End.TheVariants as ends
use Rattle.physical_stream.specs.declared.item.Item.{Item}
use Rattle.physical_stream.specs.declared.item.Item.TheVariants as items
use Rattle.physical_stream.specs.declared.item.Tail.{Tail}
use Rattle.physical_stream.specs.declared.item.Tail.TheVariants as tails
use Rattle.physical_stream.proofs.ShapeLemmas.{tail_of-over_none, tail_of-over, has_misplaced-append, IsNested-placed}
use Rattle.nest_shape.specs.declared.nest.Nest.{Nest}
use Rattle.nest_shape.specs.declared.nest.Nest.TheVariants as nests
use Rattle.nest_shape.specs.declared.builder.Open.{Open}
use Rattle.nest_shape.specs.declared.builder.Builder.{Builder}
use Rattle.nest_shape.specs.Building.{items_of_open, Descends, level_after, MayTakeClose, StandsFor, Takes, AddsTo, IsPushed, Keeps, dims_of}
use Rattle.nest_shape.specs.Tree.{plain}
use Rattle.nest_shape.specs.Flat.{flat, HasDepth, IsSeries, flat_form}
use Rattle.nest_shape.specs.Shape.{BreaksNesting, LeavesOpen, IsSeriesOf}
use Rattle.nest_shape.proofs.PlainLemmas.{plain-Leaf, plain-List}
use Rattle.nest_shape.proofs.FlatLemmas.{flat_form-one_more, IsSeries-one_more}

-- ---- the open nests

abbrev with_last : List Open → Open → List Open
with_last front innermost = front ++ innermost ∷ []

items_of_open-last : (front : List Open) (innermost : Open) → items_of_open (with_last front innermost) ≡ items_of_open front ++ flat_form innermost.depth innermost.members
items_of_open-last [] innermost = append-nil (flat_form innermost.depth innermost.members)
items_of_open-last (first ∷ more) innermost =
    ap (λ (l : List Item). flat_form first.depth first.members ++ l) (items_of_open-last more innermost)
    ∙ sym (append_assoc (flat_form first.depth first.members) (items_of_open more) (flat_form innermost.depth innermost.members))

Descends-order : (below : ℕ) (begun : List Open) (least : ℕ) → Descends below begun least → least ≤ below
Descends-order below [] least falls = falls
Descends-order below (first ∷ more) least falls = let inner = Descends-order first.depth more least falls.1.1 in omega (arith, inner, falls.0)

Descends-lower : (below : ℕ) (begun : List Open) (least lower : ℕ) → lower ≤ least → Descends below begun least → Descends below begun lower
Descends-lower below [] least lower less falls = omega (arith, less, falls)
Descends-lower below (first ∷ more) least lower less falls = (falls.0, (falls.1.0, Descends-lower first.depth more least lower less falls.1.1))

Descends-last : (below : ℕ) (front : List Open) (innermost : Open) (least : ℕ) → Descends below (with_last front innermost) least
    → Descends below front (suc innermost.depth) × IsSeries innermost.depth innermost.members
Descends-last below [] innermost least falls = (omega (arith, falls.0), falls.1.0)
Descends-last below (first ∷ more) innermost least falls =
    let inner = Descends-last first.depth more innermost least falls.1.1 in ((falls.0, (falls.1.0, inner.0)), inner.1)

Descends-one_more : (below : ℕ) (front : List Open) (innermost : Open) → Descends below front (suc innermost.depth) → IsSeries innermost.depth innermost.members
    → Descends below (with_last front innermost) innermost.depth
Descends-one_more below [] innermost falls series = (omega (arith, falls), (series, omega arith))
Descends-one_more below (first ∷ more) innermost falls series = (falls.0, (falls.1.0, Descends-one_more first.depth more innermost falls.1.1 series))

Descends-none : (below : ℕ) (begun : List Open) → Descends below begun below → begun ≡ []
Descends-none below [] falls = refl
Descends-none below (first ∷ more) falls = let inner = Descends-order first.depth more below falls.1.1 in absurd (omega (arith, inner, falls.0))

-- where the innermost has another depth than the least, it has a greater one
Descends-raise : (below : ℕ) (begun : List Open) (least : ℕ) → Descends below begun least → least < below
    → ((front : List Open) (innermost : Open) → begun ≡ with_last front innermost → innermost.depth ≡ least → ⊥) → Descends below begun (suc least)
Descends-raise below [] least falls less other = omega (arith, less)
Descends-raise below (first ∷ []) least falls less other =
    let apart : first.depth ≡ least → ⊥ = other [] first refl in (falls.0, (falls.1.0, omega (arith, falls.1.1, apart)))
Descends-raise below (first ∷ second ∷ more) least falls less other =
    let inner = Descends-order second.depth more least falls.1.1.1.1 in (
      falls.0,
      (
        falls.1.0,
        Descends-raise first.depth (second ∷ more) least falls.1.1 (omega (arith, inner, falls.1.1.0))
            (λ front innermost is. other (first ∷ front) innermost (ap (λ (l : List Open). first ∷ l) is)),
      ),
    )

-- ---- members taken out and added

apart_by_test : (one other : ℕ) → (one == other) ≡ false → one ≡ other → ⊥
apart_by_test one other test same = grind (arith, nat_tests)

same_by_test : (one other : ℕ) → (one == other) ≡ true → one ≡ other
same_by_test one other test = grind (arith, nat_tests)

-- nothing of this depth is open
pub Takes-none : (dims depth : ℕ) (begun : List Open) (members : List Nest) → depth ≤ dims → members ≡ []
    → ((front : List Open) (innermost : Open) → begun ≡ front ++ innermost ∷ [] → (innermost.depth == depth) ≡ false)
    → Descends (suc dims) begun depth → Takes dims depth begun begun members
Takes-none dims depth begun members within none other falls = record {
  spelled = sym (append-nil (items_of_open begun)) ∙ ap (λ ns. items_of_open begun ++ flat_form depth ns) (sym none);
  descends = Descends-raise (suc dims) begun depth falls (omega (arith, within)) (λ front innermost is. apart_by_test innermost.depth depth (other front innermost is));
  series = subst (IsSeries depth) (sym none) tt;
}

-- the innermost open nests have this depth
pub Takes-last : (dims depth : ℕ) (begun new : List Open) (innermost : Open) → begun ≡ new ++ innermost ∷ [] → (innermost.depth == depth) ≡ true
    → Descends (suc dims) begun depth → Takes dims depth begun new innermost.members
Takes-last dims depth begun new innermost is test falls =
    let same : innermost.depth ≡ depth = same_by_test innermost.depth depth test in
    let parts = Descends-last (suc dims) new innermost depth (subst (λ (l : List Open). Descends (suc dims) l depth) is falls) in
    record {
      spelled = ap items_of_open is ∙ items_of_open-last new innermost ∙ ap (λ (d : ℕ). items_of_open new ++ flat_form d innermost.members) same;
      descends = subst (λ (d : ℕ). Descends (suc dims) new (suc d)) same parts.0;
      series = subst (λ (d : ℕ). IsSeries d innermost.members) same parts.1;
    }

-- the nest is added to those that were taken out
pub AddsTo-taken : (dims depth : ℕ) (begun taken new : List Open) (members more : List Nest) (one : Nest) → Takes dims depth begun taken members
    → more ≡ members ++ one ∷ [] → new ≡ taken ++ record { depth = depth; members = more } ∷ [] → HasDepth depth (plain one) → AddsTo dims depth begun new one
AddsTo-taken dims depth begun taken new members more one takes added pushed deep = record {
  spelled =
      ap items_of_open pushed ∙ items_of_open-last taken (record { depth = depth; members = more })
      ∙ ap (λ ns. items_of_open taken ++ flat_form depth ns) added ∙ ap (λ (l : List Item). items_of_open taken ++ l) (flat_form-one_more depth members one)
      ∙ sym (append_assoc (items_of_open taken) (flat_form depth members) (flat depth (plain one)))
      ∙ ap (λ (l : List Item). l ++ flat depth (plain one)) (sym takes.spelled);
  descends =
      subst (λ (l : List Open). Descends (suc dims) l depth) (sym pushed)
      (Descends-one_more (suc dims) taken (record { depth = depth; members = more }) takes.descends
      (subst (IsSeries depth) (sym added) (IsSeries-one_more depth members one takes.series deep)));
}

-- a nest was added to the innermost open ones, which have this depth
pub AddsTo-pushed : (dims depth : ℕ) (begun new : List Open) (one : Nest) (is : IsPushed begun new one) → (is.innermost.depth == depth) ≡ true
    → Descends (suc dims) begun depth → HasDepth depth (plain one) → AddsTo dims depth begun new one
AddsTo-pushed dims depth begun new one is test falls deep =
    let same : is.innermost.depth ≡ depth = same_by_test is.innermost.depth depth test in
    let more = is.innermost.members ++ one ∷ [] in
    AddsTo-taken dims depth begun is.front new is.innermost.members more one (Takes-last dims depth begun is.front is.innermost is.was test falls) refl
    (is.is ∙ ap (λ (d : ℕ). is.front ++ record { depth = d; members = more } ∷ []) same) deep

-- the last of open nests, and those that another stands in its place
pub record LastSet (begun : List Open) (at : ℕ) (innermost one : Open) : Type 0 where
  pub front : List Open
  pub was : begun ≡ front ++ innermost ∷ []
  pub is : set begun at one ≡ front ++ one ∷ []

pub last-set : (begun : List Open) (at : ℕ) (innermost one : Open) → length begun ≡ suc at → innermost ≡ slice_index_or begun at innermost → LastSet begun at innermost one
last-set [] at innermost one count found = absurd (omega (arith, count))
last-set (first ∷ []) zero innermost one count found = record { front = []; was = ap (λ (o : Open). o ∷ []) (sym found); is = refl }
last-set (first ∷ second ∷ more) zero innermost one count found = absurd (omega (arith, count))
last-set (first ∷ more) (suc at) innermost one count found =
    let rest = last-set more at innermost one (omega (arith, count)) found in
    record { front = first ∷ rest.front; was = ap (λ (l : List Open). first ∷ l) rest.was; is = ap (λ (l : List Open). first ∷ l) rest.is }

-- ---- one item more

pub has_misplaced-one_more : (done : List Item) (item : Item) → has_misplaced None done ≡ false → is_misplaced (tail_of done) item ≡ false → has_misplaced None (done ++ item ∷ []) ≡ false
has_misplaced-one_more done item placed here =
    has_misplaced-append None done (item ∷ [])
    ∙ or_from (has_misplaced None done) _ placed
    (or_from (is_misplaced (tail_over None done) item) false (ap (λ (tail : Option Tail). is_misplaced tail item) (sym (tail_of-over_none done)) ∙ here) refl)

pub Keeps-none : (dims : ℕ) (begun : List Open) → begun ≡ [] → Keeps dims dims begun []
Keeps-none dims begun none = subst (λ (l : List Open). Keeps dims dims l []) (sym none)
    (record { spelled = refl; descends = omega arith; tail = refl; within = omega arith; placed = refl })

pub Keeps-element : (dims level : ℕ) (begun new : List Open) (done : List Item) (word : List Bool) → Keeps dims level begun done
    → (Descends (suc dims) begun 0 → HasDepth 0 (plain (nests.Leaf word)) → AddsTo dims 0 begun new (nests.Leaf word)) → Keeps dims 0 new (done ++ items.Elem word ∷ [])
Keeps-element dims level begun new done word keeps adds =
    let added = adds (Descends-lower (suc dims) begun level 0 (omega arith) keeps.descends) (subst (HasDepth 0) (sym (plain-Leaf word)) refl) in
    record {
      spelled = added.spelled ∙ ap (λ (l : List Item). l ++ flat 0 (plain (nests.Leaf word))) keeps.spelled ∙ ap (λ t. done ++ flat 0 t) (plain-Leaf word);
      descends = added.descends;
      tail = ap (level_after dims) (sym (tail_of-over done (items.Elem word ∷ [])));
      within = omega arith;
      placed = has_misplaced-one_more done (items.Elem word) keeps.placed refl;
    }

-- the same builder
pub Keeps-at : (dims level dims' level' : ℕ) (begun : List Open) (done : List Item) → dims ≡ dims' → level ≡ level' → Keeps dims' level' begun done → Keeps dims level begun done
Keeps-at dims level dims' level' begun done same same' keeps =
    subst (λ (d : ℕ). Keeps d level begun done) (sym same) (subst (λ (l : ℕ). Keeps dims' l begun done) (sym same') keeps)

-- a Close may come next exactly where its dimension is no greater than the level
pub may_close-level : (dims : ℕ) (tail : Option Tail) (level dim : ℕ) → dim < dims → level ≡ level_after dims tail → nat_le dim level ≡ may_close tail dim
may_close-level dims None level dim within is = ap (nat_le dim) is ∙ below dim dims (omega (arith, within))
  where
    below : (a b : ℕ) → a ≤ b → nat_le a b ≡ true
    below a b less = grind (arith, nat_tests)
may_close-level dims (Some tails.Elem) level dim within is = ap (nat_le dim) is ∙ by_zero dim
  where
    above : (a b : ℕ) → b < a → nat_le a b ≡ false
    above a b less = grind (arith, nat_tests)

    differs : (a b : ℕ) → b < a → (a == b) ≡ false
    differs a b less = grind (arith, nat_tests)

    by_zero : (d : ℕ) → nat_le d 0 ≡ (d == 0)
    by_zero zero = refl
    by_zero (suc d) = above (suc d) 0 (omega arith) ∙ sym (differs (suc d) 0 (omega arith))
may_close-level dims (Some (tails.Close i)) level dim within is = let more : suc i ≡ i + 1 = omega arith in ap (nat_le dim) (is ∙ more)

pub Keeps-close : (dims level dim next : ℕ) (begun taken new : List Open) (parts : List Nest) (done : List Item) → Keeps dims level begun done → dim < dims → dim ≤ level → next ≡ dim + 1
    → (Descends (suc dims) begun dim → Takes dims dim begun taken parts)
    → (Descends (suc dims) taken next → HasDepth next (plain (nests.List parts)) → AddsTo dims next taken new (nests.List parts))
    → Keeps dims next new (done ++ items.Close dim ∷ [])
Keeps-close dims level dim next begun taken new parts done keeps inside low is takes adds =
    let took = takes (Descends-lower (suc dims) begun level dim low keeps.descends) in
    let follows : suc dim ≡ next = omega (arith, is) in
    let before : next - 1 ≡ dim = omega (arith, is) in
    let deep : HasDepth next (plain (nests.List parts)) =
    subst (HasDepth next) (sym (plain-List parts)) (omega (arith, is), subst (λ (d : ℕ). IsSeries d parts) (sym before) took.series) in
    let added = adds (subst (λ (d : ℕ). Descends (suc dims) taken d) follows took.descends) deep in
    record {
      spelled =
          added.spelled ∙ ap (λ t. items_of_open taken ++ flat next t) (plain-List parts)
          ∙ ap (λ (d : ℕ). items_of_open taken ++ (flat_form d parts ++ items.Close d ∷ [])) before
          ∙ sym (append_assoc (items_of_open taken) (flat_form dim parts) (items.Close dim ∷ []))
          ∙ ap (λ (l : List Item). l ++ items.Close dim ∷ []) (sym took.spelled ∙ keeps.spelled);
      descends = added.descends;
      tail = sym follows ∙ ap (level_after dims) (sym (tail_of-over done (items.Close dim ∷ [])));
      within = omega (arith, is, inside);
      placed = has_misplaced-one_more done (items.Close dim) keeps.placed
          (ap not (sym (may_close-level dims (tail_of done) level dim inside keeps.tail) ∙ at_most dim level low));
    }
  where
    at_most : (a b : ℕ) → a ≤ b → nat_le a b ≡ true
    at_most a b less = grind (arith, nat_tests)

-- ---- the end

pub IsSeriesOf-all : (dims level : ℕ) (begun taken : List Open) (series : List Nest) (done : List Item) → Keeps dims level begun done → level ≡ dims
    → (Descends (suc dims) begun dims → Takes dims dims begun taken series) → IsSeriesOf dims done series
IsSeriesOf-all dims level begun taken series done keeps whole takes =
    let took = takes (subst (λ (d : ℕ). Descends (suc dims) begun d) whole keeps.descends) in
    let none : taken ≡ [] = Descends-none (suc dims) taken took.descends in
    record {
      depth = took.series;
      spelled = sym (ap (λ (l : List Open). items_of_open l ++ flat_form dims series) none) ∙ sym took.spelled ∙ keeps.spelled;
    }

ending-unclosed : (dims level : ℕ) (tail : Option Tail) → level ≡ level_after dims tail → level ≤ dims → (level ≡ dims → ⊥) → ending_after dims tail ≡ ends.Unclosed level
ending-unclosed dims level None is within begun = absurd (begun is)
ending-unclosed dims level (Some tails.Elem) is within begun = by_test (dims == 0) refl
  where
    by_test : (test : Bool) → (dims == 0) ≡ test → ending_after dims (Some tails.Elem) ≡ ends.Unclosed level
    by_test true whole = absurd (begun (is ∙ sym (same_by_test dims 0 whole)))
    by_test false not_whole = ap (λ (b : Bool). cond b ends.Whole (ends.Unclosed 0)) not_whole ∙ ap ends.Unclosed (sym is)
ending-unclosed dims level (Some (tails.Close i)) is within begun =
    ap (λ (b : Bool). cond b ends.Whole (ends.Unclosed (i + 1)))
    (or_from (dims == 0) (i + 1 == dims) (differs dims 0 (λ e. omega (arith, e, is, within))) (differs (i + 1) dims (λ e. begun (omega (arith, e, is)))))
    ∙ ap ends.Unclosed (omega (arith, is))
  where
    differs : (a b : ℕ) → (a ≡ b → ⊥) → (a == b) ≡ false
    differs a b apart = grind (arith, nat_tests)

pub LeavesOpen-level : (dims level : ℕ) (begun : List Open) (done : List Item) → Keeps dims level begun done → (level ≡ dims → ⊥) → LeavesOpen dims done level
LeavesOpen-level dims level begun done keeps below =
    record { nested = IsNested-placed done keeps.placed; open_at = ending-unclosed dims level (tail_of done) keeps.tail keeps.within below }

-- ---- the contracts of a builder

-- a builder was given one list of items
pub StandsFor-once : (builder : Builder) (one other : List Item) → StandsFor builder one → StandsFor builder other → one ≡ other
StandsFor-once builder one other stands stands' = sym stands.spelled ∙ stands'.spelled

-- it may take a Close exactly where this may follow the items so far
pub MayTakeClose-told : (builder : Builder) (done : List Item) (dim : ℕ) → StandsFor builder done → dim < dims_of builder → may_close (tail_of done) dim ≡ true → MayTakeClose builder dim
MayTakeClose-told builder done dim stands within may =
    by_test dim builder.level (may_close-level builder.dims (tail_of done) builder.level dim within stands.tail ∙ may)
  where
    by_test : (a b : ℕ) → nat_le a b ≡ true → a ≤ b
    by_test a b test = grind (arith, nat_tests)

pub may_close-MayTakeClose : (builder : Builder) (done : List Item) (dim : ℕ) → StandsFor builder done → dim < dims_of builder → MayTakeClose builder dim → may_close (tail_of done) dim ≡ true
may_close-MayTakeClose builder done dim stands within may =
    sym (may_close-level builder.dims (tail_of done) builder.level dim within stands.tail) ∙ at_most dim builder.level may
  where
    at_most : (a b : ℕ) → a ≤ b → nat_le a b ≡ true
    at_most a b less = grind (arith, nat_tests)

-- ---- the innermost of what is open

pub last-with : (front : List Open) (innermost : Open) (begun : List Open) → begun ≡ front ++ innermost ∷ [] → slice_get begun (length begun - 1) ≡ Some innermost
last-with front innermost begun is =
    let long : length (with_last front innermost) ≡ length front + 1 = length-append front (innermost ∷ []) in
    let at : length (with_last front innermost) - 1 ≡ length front = omega (arith, long) in
    let within : length front < length (with_last front innermost) = omega (arith, long) in
    ap (λ (l : List Open). slice_get l (length l - 1)) is ∙ ap (slice_get (with_last front innermost)) at
    ∙ slice_get-get_or (with_last front innermost) (length front) innermost within ∙ ap Some (get_or-append_seam front innermost [] innermost)

-- ---- an item that breaks the nesting

pub BreaksNesting-at : (done : List Item) (number : ℕ) (item : Item) → number < length done → item ≡ get_or done number item
    → is_misplaced (tail_of (take number done)) item ≡ true → has_misplaced None (take number done) ≡ false → BreaksNesting done number
BreaksNesting-at done number (items.Elem word) within is wrong placed = cc
BreaksNesting-at done number (items.Close dim) within is wrong placed = record {
  dim = dim;
  stands = slice_get-get_or done number (items.Close dim) within ∙ ap Some (sym is);
  misplaced = not-true (may_close (tail_of (take number done)) dim) wrong;
  nested = IsNested-placed (take number done) placed;
}
