-- Flat forms are nested and whole, and tell their series apart.
use Rattle.std.proofs.Common.{◌≡◌, ◌∙◌, ◌⊎◌, inl, inr, ℕ, zero, suc, ◌+◌, ◌-◌, ◌<◌, ◌≤◌, Bool, true, false, not, ◌||◌, ◌==◌, nat_le, List, [], ◌∷◌, ◌++◌, Option, Some, None, refl, sym, ap, subst, append_assoc, arith}
use Rattle.std.specs.List.{All}
use Rattle.std.proofs.lemmas.Bool.{or_from, or_right}
use Rattle.std.proofs.lemmas.Bool.Decides.{nat_tests}
use Rattle.std.proofs.lemmas.List.Elements.{All-append, All-cons, All-nil}
use Rattle.physical_stream.specs.Shape.{tail_of, tail_over, is_whole, may_close, is_misplaced, has_misplaced, IsNested}
use Rattle.physical_stream.specs.declared.item.Item.{Item}
use Rattle.physical_stream.specs.declared.item.Item.TheVariants as items
use Rattle.physical_stream.specs.declared.item.Tail.{Tail}
use Rattle.physical_stream.specs.declared.item.Tail.TheVariants as tails
use Rattle.physical_stream.proofs.ShapeLemmas.{tail_over-append, tail_of-over_none, has_misplaced-append, IsNested-placed}
use Rattle.nest_shape.specs.Tree.{Tree, leaf, list, Trees, no_trees, tree, plain_nests}
use Rattle.nest_shape.specs.Flat.{flat, flat_all, HasDepth, HaveDepth}
use Rattle.nest_shape.specs.Laws.{OneSeries, FlatFormsAreWhole, NestsItemByItem}
use Rattle.nest_shape.specs.Shape.{AreWhole, ClosesBelow}
use Rattle.nest_shape.proofs.BuildingLemmas.{has_misplaced-one_more}
use Rattle.nest_shape.proofs.PlainLemmas.{plain_nests-injective}

-- ---- nesting, item by item

-- where each Close of nested items may stand, none is misplaced
placed_by : (tail : Option Tail) (done : List Item)
    → ((front rest : List Item) (dim : ℕ) → done ≡ front ++ items.Close dim ∷ rest → may_close (tail_over tail front) dim ≡ true) → has_misplaced tail done ≡ false
placed_by tail [] may = refl
placed_by tail (items.Elem word ∷ more) may =
    placed_by (Some tails.Elem) more (λ front rest dim is. may (items.Elem word ∷ front) rest dim (ap (λ (l : List Item). items.Elem word ∷ l) is))
placed_by tail (items.Close i ∷ more) may =
    ap (λ (b : Bool). not b || has_misplaced (Some (tails.Close i)) more) (may [] more i refl)
    ∙ placed_by (Some (tails.Close i)) more (λ front rest dim is. may (items.Close i ∷ front) rest dim (ap (λ (l : List Item). items.Close i ∷ l) is))

pub placed-IsNested : (done : List Item) → IsNested done → has_misplaced None done ≡ false
placed-IsNested done nested =
    placed_by None done (λ front rest dim is. ap (λ (tail : Option Tail). may_close tail dim) (sym (tail_of-over_none front)) ∙ nested front rest dim is)

pub nests_item_by_item : NestsItemByItem
nests_item_by_item done item = (
  λ nested. (
    λ front rest dim is.
        nested front (rest ++ item ∷ []) dim (ap (λ (l : List Item). l ++ item ∷ []) is ∙ append_assoc front (items.Close dim ∷ rest) (item ∷ [])),
    last_placed item nested,
  ),
  λ both. IsNested-placed (done ++ item ∷ []) (has_misplaced-one_more done item (placed-IsNested done both.0) both.1),
)
  where
    last_placed : (last : Item) → IsNested (done ++ last ∷ []) → is_misplaced (tail_of done) last ≡ false
    last_placed (items.Elem word) nested = refl
    last_placed (items.Close dim) nested = ap not (nested done [] dim refl)

-- ---- one series

-- a nest does not begin with a Close of its own depth or a greater one
mutual
  begins_below : (depth : ℕ) (one : Tree) (rest : List Item) (dim : ℕ) (more : List Item) → HasDepth depth one → flat depth one ++ rest ≡ items.Close dim ∷ more → dim < depth
  begins_below depth (leaf word) rest dim more deep is = cc
  begins_below depth (list parts) rest dim more deep is =
      begin_below (depth - 1) parts depth rest dim more (omega (arith, deep.0)) deep.1 (sym (append_assoc (flat_all (depth - 1) parts) (items.Close (depth - 1) ∷ []) rest) ∙ is)

  begin_below : (inner : ℕ) (parts : Trees) (depth : ℕ) (rest : List Item) (dim : ℕ) (more : List Item) → inner < depth → HaveDepth inner parts
      → flat_all inner parts ++ items.Close inner ∷ rest ≡ items.Close dim ∷ more → dim < depth
  begin_below inner no_trees depth rest dim more less deep is = let same : inner ≡ dim = cc in omega (arith, same, less)
  begin_below inner (tree first others) depth rest dim more less deep is =
      let low = begins_below inner first (flat_all inner others ++ items.Close inner ∷ rest) dim more deep.0
      (sym (append_assoc (flat inner first) (flat_all inner others) (items.Close inner ∷ rest)) ∙ is) in
      omega (arith, low, less)

-- a list that begins with the flat form of a nest of this depth determines the nest and the rest
record Same {A : Type 0} (one other : A) (rest remains : List Item) : Type 0 where
  same : one ≡ other
  left : rest ≡ remains

mutual
  same_tree : (depth : ℕ) (one other : Tree) (rest remains : List Item) → HasDepth depth one → HasDepth depth other
      → flat depth one ++ rest ≡ flat depth other ++ remains → Same one other rest remains
  same_tree depth (leaf word) (leaf word') rest remains deep deep' is = record { same = let e : word ≡ word' = cc in ap leaf e; left = cc }
  same_tree depth (leaf word) (list parts) rest remains deep deep' is = absurd (omega (arith, deep, deep'.0))
  same_tree depth (list parts) (leaf word) rest remains deep deep' is = absurd (omega (arith, deep.0, deep'))
  same_tree depth (list parts) (list parts') rest remains deep deep' is =
      let inner = depth - 1 in
      let both = same_trees inner parts parts' rest remains deep.1 deep'.1
      (sym (append_assoc (flat_all inner parts) (items.Close inner ∷ []) rest) ∙ is ∙ append_assoc (flat_all inner parts') (items.Close inner ∷ []) remains) in
      record { same = ap list both.same; left = both.left }

  same_trees : (depth : ℕ) (some others : Trees) (rest remains : List Item) → HaveDepth depth some → HaveDepth depth others
      → flat_all depth some ++ items.Close depth ∷ rest ≡ flat_all depth others ++ items.Close depth ∷ remains → Same some others rest remains
  same_trees depth no_trees no_trees rest remains deep deep' is = record { same = refl; left = cc }
  same_trees depth no_trees (tree first more) rest remains deep deep' is =
      let low = begins_below depth first (flat_all depth more ++ items.Close depth ∷ remains) depth rest deep'.0
      (sym (append_assoc (flat depth first) (flat_all depth more) (items.Close depth ∷ remains)) ∙ sym is) in
      absurd (omega (arith, low))
  same_trees depth (tree first more) no_trees rest remains deep deep' is =
      let low = begins_below depth first (flat_all depth more ++ items.Close depth ∷ rest) depth remains deep.0
      (sym (append_assoc (flat depth first) (flat_all depth more) (items.Close depth ∷ rest)) ∙ is) in
      absurd (omega (arith, low))
  same_trees depth (tree first more) (tree first' more') rest remains deep deep' is =
      let here = same_tree depth first first' (flat_all depth more ++ items.Close depth ∷ rest) (flat_all depth more' ++ items.Close depth ∷ remains) deep.0 deep'.0
      (sym (append_assoc (flat depth first) (flat_all depth more) (items.Close depth ∷ rest)) ∙ is
      ∙ append_assoc (flat depth first') (flat_all depth more') (items.Close depth ∷ remains)) in
      let there = same_trees depth more more' rest remains deep.1 deep'.1 here.left in
      record { same = ap (λ t. tree t more) here.same ∙ ap (tree first') there.same; left = there.left }

pub one_series : OneSeries
one_series dims one other deep deep' is =
    plain_nests-injective one other
    (same_trees dims (plain_nests one) (plain_nests other) [] [] deep deep' (ap (λ (l : List Item). l ++ items.Close dims ∷ []) is)).same

-- ---- flat forms are whole

-- the kind of the last item of a nest of this depth
abbrev end_of : ℕ → Tail
end_of zero = tails.Elem
end_of (suc depth) = tails.Close depth

end_of-list : (depth : ℕ) → 0 < depth → tails.Close (depth - 1) ≡ end_of depth
end_of-list zero deep = absurd (omega (arith, deep))
end_of-list (suc depth) deep = ap tails.Close (omega arith)

-- a nest of this depth may begin after this tail
abbrev MayBegin : ℕ → Option Tail → Type 0
MayBegin depth None = Unit {0}
MayBegin depth (Some tails.Elem) = depth ≡ 0
MayBegin depth (Some (tails.Close dim)) = depth ≤ suc dim

MayBegin-end : (depth : ℕ) → MayBegin depth (Some (end_of depth))
MayBegin-end zero = refl
MayBegin-end (suc depth) = omega arith

MayBegin-inner : (depth : ℕ) (tail : Option Tail) → MayBegin depth tail → MayBegin (depth - 1) tail
MayBegin-inner depth None may = tt
MayBegin-inner depth (Some tails.Elem) may = omega (arith, may)
MayBegin-inner depth (Some (tails.Close dim)) may = omega (arith, may)

may_close-MayBegin : (depth : ℕ) (tail : Option Tail) → MayBegin depth tail → may_close tail depth ≡ true
may_close-MayBegin depth None may = refl
may_close-MayBegin depth (Some tails.Elem) may = ap (λ (d : ℕ). d == 0) may
may_close-MayBegin depth (Some (tails.Close dim)) may = at_most depth (dim + 1) (omega (arith, may))
  where
    at_most : (a b : ℕ) → a ≤ b → nat_le a b ≡ true
    at_most a b less = grind (arith, nat_tests)

-- items that follow this tail, none of them misplaced, and the tail after them
record Follow (tail : Option Tail) (more : List Item) (ends : Option Tail → Type 0) : Type 0 where
  placed : has_misplaced tail more ≡ false
  ends_so : ends (tail_over tail more)

abbrev Ends : Option Tail → Option Tail → Type 0
Ends tail after = after ≡ tail

abbrev EndsOrStays : Option Tail → ℕ → Option Tail → Type 0
EndsOrStays tail depth after = (after ≡ tail) ⊎ (after ≡ Some (end_of depth))

MayBegin-after : (depth : ℕ) (tail after : Option Tail) → MayBegin depth tail → EndsOrStays tail depth after → MayBegin depth after
MayBegin-after depth tail after may (inl stays) = subst (MayBegin depth) (sym stays) may
MayBegin-after depth tail after may (inr ends) = subst (MayBegin depth) (sym ends) (MayBegin-end depth)

ends-after : (depth : ℕ) (before after : Option Tail) → EndsOrStays before depth after → before ≡ Some (end_of depth) → after ≡ Some (end_of depth)
ends-after depth before after (inl stays) ends = stays ∙ ends
ends-after depth before after (inr ends) before_ends = ends

mutual
  follows : (depth : ℕ) (one : Tree) (tail : Option Tail) → HasDepth depth one → MayBegin depth tail → Follow tail (flat depth one) (Ends (Some (end_of depth)))
  follows depth (leaf word) tail deep may = record { placed = refl; ends_so = ap (λ (d : ℕ). Some (end_of d)) (sym deep) }
  follows depth (list parts) tail deep may =
      let inner = depth - 1 in
      let inside = follow inner parts tail deep.1 (MayBegin-inner depth tail may) in
      let after = tail_over tail (flat_all inner parts) in
      let closes : may_close after inner ≡ true = may_close-MayBegin inner after (MayBegin-after inner tail after (MayBegin-inner depth tail may) inside.ends_so) in
      record {
        placed = has_misplaced-append tail (flat_all inner parts) (items.Close inner ∷ [])
            ∙ or_from (has_misplaced tail (flat_all inner parts)) _ inside.placed (or_from (not (may_close after inner)) false (ap not closes) refl);
        ends_so = tail_over-append tail (flat_all inner parts) (items.Close inner ∷ []) ∙ ap Some (end_of-list depth deep.0);
      }

  follow : (depth : ℕ) (some : Trees) (tail : Option Tail) → HaveDepth depth some → MayBegin depth tail → Follow tail (flat_all depth some) (EndsOrStays tail depth)
  follow depth no_trees tail deep may = record { placed = refl; ends_so = inl refl }
  follow depth (tree first more) tail deep may =
      let here = follows depth first tail deep.0 may in
      let after = tail_over tail (flat depth first) in
      let there = follow depth more after deep.1 (subst (MayBegin depth) (sym here.ends_so) (MayBegin-end depth)) in
      record {
        placed = has_misplaced-append tail (flat depth first) (flat_all depth more) ∙ or_from (has_misplaced tail (flat depth first)) _ here.placed there.placed;
        ends_so = inr (tail_over-append tail (flat depth first) (flat_all depth more) ∙ ends-after depth after (tail_over after (flat_all depth more)) there.ends_so here.ends_so);
      }

mutual
  closes_below : (dims depth : ℕ) (one : Tree) → depth ≤ dims → HasDepth depth one → All (ClosesBelow dims) (flat depth one)
  closes_below dims depth (leaf word) within deep = All-cons (ClosesBelow dims) (items.Elem word) [] tt (All-nil (ClosesBelow dims))
  closes_below dims depth (list parts) within deep =
      let low : depth - 1 < dims = omega (arith, within, deep.0) in
      All-append (ClosesBelow dims) (flat_all (depth - 1) parts) (items.Close (depth - 1) ∷ []) (close_below dims (depth - 1) parts (omega (arith, low)) deep.1)
      (All-cons (ClosesBelow dims) (items.Close (depth - 1)) [] low (All-nil (ClosesBelow dims)))

  close_below : (dims depth : ℕ) (some : Trees) → depth ≤ dims → HaveDepth depth some → All (ClosesBelow dims) (flat_all depth some)
  close_below dims depth no_trees within deep = All-nil (ClosesBelow dims)
  close_below dims depth (tree first more) within deep =
      All-append (ClosesBelow dims) (flat depth first) (flat_all depth more) (closes_below dims depth first within deep.0) (close_below dims depth more within deep.1)

is_whole-end : (dims : ℕ) → is_whole dims (Some (end_of dims)) ≡ true
is_whole-end zero = refl
is_whole-end (suc dims) = or_right (suc dims == 0) (dims + 1 == suc dims) (same (dims + 1) (suc dims) (omega arith))
  where
    same : (a b : ℕ) → a ≡ b → (a == b) ≡ true
    same a b is = grind (arith, nat_tests)

is_whole-after : (dims : ℕ) (tail : Option Tail) → EndsOrStays None dims tail → is_whole dims tail ≡ true
is_whole-after dims tail (inl stays) = ap (is_whole dims) stays
is_whole-after dims tail (inr ends) = ap (is_whole dims) ends ∙ is_whole-end dims

-- the flat form of nests of this depth, as plain data
pub nests_whole : (dims : ℕ) (trees : Trees) → HaveDepth dims trees → All (ClosesBelow dims) (flat_all dims trees) × AreWhole dims (flat_all dims trees)
nests_whole dims trees deep =
    let all = follow dims trees None deep tt in (
      close_below dims dims trees (omega arith) deep,
      record {
        nested = IsNested-placed (flat_all dims trees) all.placed;
        whole = is_whole-after dims (tail_of (flat_all dims trees)) (subst (EndsOrStays None dims) (sym (tail_of-over_none (flat_all dims trees))) all.ends_so);
      },
    )

pub flat_forms_whole : FlatFormsAreWhole
flat_forms_whole dims series deep = nests_whole dims (plain_nests series) deep
