-- The nodes of a type in their list, by their numbers.
use Rattle.std.proofs.Common.{◌≡◌, ◌∙◌, ℕ, zero, suc, ◌+◌, ◌<◌, Bool, true, false, not, ◌&&◌, ◌||◌, ◌==◌, nat_lt, if◌then◌else◌, cond, List, [], ◌∷◌, ◌++◌, length, map, filter, drop, slice_get, Option, Some, None, is_some, refl, sym, ap, subst, append_assoc, arith}
use Rattle.std.proofs.lemmas.Bool.Decides.{nat_tests}
use Rattle.std.proofs.lemmas.List.{append-nil}
use Rattle.logical_types.specs.Synchronicity.{is_apart}
use Rattle.logical_types.specs.Tree.{Ltype, null, bits, group, union, stream, Parts, no_parts, part, Settings}
use Rattle.logical_types.specs.Width.{width_of}
use Rattle.logical_types.specs.declared.ltype.Sync.{Sync}
use Rattle.logical_types.specs.declared.ltype.Sync.TheVariants as syncs
use Rattle.type_split.specs.Carried.{is_tied, has_carried, have_carried, is_carried, uncarried_paths}
use Rattle.type_split.specs.Nodes.{StreamNode, is_physical, nodes_in, nodes_in_parts, nodes_of, number_of_physical, number_of_streams, node_at, outermost_place, place_inside}
use Rattle.type_split.specs.Standing.{AreFrom, StandsAt, IsAround, HasDims, NodesStand, NodesHaveDims, roots_in, roots_in_parts, RootsInOrder, IsToldBy, AreToldWhereCarried}
use Rattle.type_split.specs.Streams.{gathered, split_of}
use Rattle.type_split.specs.Streams as streams
use Rattle.type_split.specs.declared.place.Place.{Place}
use Rattle.type_split.proofs.CountLemmas.{nodes_in-length}

-- ---- the elements of a list from a number on

dropped : (nodes : List StreamNode) (number : ℕ) (node : StreamNode) (more : List StreamNode) → drop number nodes ≡ node ∷ more
    → (slice_get nodes number ≡ Some node) × (drop (suc number) nodes ≡ more)
dropped [] zero node more is = cc
dropped [] (suc number) node more is = cc
dropped (first ∷ nodes) zero node more is = (let same : first ≡ node = cc in ap (λ (n : StreamNode). Some n) same, cc)
dropped (first ∷ nodes) (suc number) node more is = dropped nodes number node more is

pub AreFrom-all : (nodes : List StreamNode) → AreFrom nodes 0 nodes
AreFrom-all nodes = record { rest = []; are = sym (append-nil nodes) }

-- the first of them, and those behind it
pub AreFrom-node : (nodes : List StreamNode) (number : ℕ) (node : StreamNode) (more : List StreamNode) → AreFrom nodes number (node ∷ more)
    → (slice_get nodes number ≡ Some node) × AreFrom nodes (suc number) more
AreFrom-node nodes number node more from = let both = dropped nodes number node (more ++ from.rest) from.are in (both.0, record { rest = from.rest; are = both.1 })

-- the front of them, and the back
pub AreFrom-front : (nodes : List StreamNode) (number : ℕ) (front back : List StreamNode) → AreFrom nodes number (front ++ back) → AreFrom nodes number front
AreFrom-front nodes number front back from = record { rest = back ++ from.rest; are = from.are ∙ append_assoc front back from.rest }

pub AreFrom-back : (nodes : List StreamNode) (number : ℕ) (front back : List StreamNode) (next : ℕ) → next ≡ length front + number → AreFrom nodes number (front ++ back)
    → AreFrom nodes next back
AreFrom-back nodes number [] back next is from = (let same : number ≡ next = omega (arith, is) in subst (λ (n : ℕ). AreFrom nodes n back) same from)
AreFrom-back nodes number (node ∷ front) back next is from =
    AreFrom-back nodes (suc number) front back next (omega (arith, is)) (AreFrom-node nodes number node (front ++ back) from).1

-- the nodes of the first part, and of the parts behind it
pub AreFrom-part : (nodes : List StreamNode) (names : List (List ℕ)) (place : Place) (number physical : ℕ) (name : List ℕ) (ltype : Ltype) (more : Parts)
    → AreFrom nodes number (nodes_in_parts names place number physical (part name ltype more)) → AreFrom nodes number (nodes_in (names ++ name ∷ []) place number physical ltype)
AreFrom-part nodes names place number physical name ltype more from =
    AreFrom-front nodes number (nodes_in (names ++ name ∷ []) place number physical ltype)
    (nodes_in_parts names place (number_of_streams ltype + number) (number_of_physical ltype + physical) more) from

pub AreFrom-parts : (nodes : List StreamNode) (names : List (List ℕ)) (place : Place) (number physical : ℕ) (name : List ℕ) (ltype : Ltype) (more : Parts)
    → AreFrom nodes number (nodes_in_parts names place number physical (part name ltype more))
    → AreFrom nodes (number_of_streams ltype + number) (nodes_in_parts names place (number_of_streams ltype + number) (number_of_physical ltype + physical) more)
AreFrom-parts nodes names place number physical name ltype more from =
    AreFrom-back nodes number (nodes_in (names ++ name ∷ []) place number physical ltype)
    (nodes_in_parts names place (number_of_streams ltype + number) (number_of_physical ltype + physical) more) (number_of_streams ltype + number)
    (ap (λ (n : ℕ). n + number) (sym (nodes_in-length (names ++ name ∷ []) place number physical ltype))) from

-- the nodes inside a Stream
pub AreFrom-inside : (nodes : List StreamNode) (names : List (List ℕ)) (place : Place) (number physical : ℕ) (element user : Ltype) (settings : Settings)
    → AreFrom nodes number (nodes_in names place number physical (stream element user settings))
    → (slice_get nodes number ≡ Some (node_at names place number physical element user settings))
    × AreFrom nodes (suc number) (nodes_in names (place_inside place number settings) (suc number) ((if is_physical element user settings then 1 else 0) + physical) element)
AreFrom-inside nodes names place number physical element user settings from =
    AreFrom-node nodes number (node_at names place number physical element user settings)
    (nodes_in names (place_inside place number settings) (suc number) ((if is_physical element user settings then 1 else 0) + physical) element) from

-- ---- relations that hold for each node, by its number

abbrev EachFrom : (ℕ → StreamNode → Type 0) → ℕ → List StreamNode → Type 0
EachFrom Holds number [] = Unit {0}
EachFrom Holds number (node ∷ more) = Holds number node × EachFrom Holds (suc number) more

EachFrom-append : (Holds : ℕ → StreamNode → Type 0) (number : ℕ) (front back : List StreamNode) (next : ℕ) → next ≡ length front + number → EachFrom Holds number front
    → EachFrom Holds next back → EachFrom Holds number (front ++ back)
EachFrom-append Holds number [] back next is each others = (let same : next ≡ number = omega (arith, is) in subst (λ (n : ℕ). EachFrom Holds n back) same others)
EachFrom-append Holds number (node ∷ front) back next is each others = (each.0, EachFrom-append Holds (suc number) front back next (omega (arith, is)) each.1 others)

EachFrom-at : (Holds : ℕ → StreamNode → Type 0) (number : ℕ) (nodes : List StreamNode) (k : ℕ) (node : StreamNode) → EachFrom Holds number nodes → slice_get nodes k ≡ Some node
    → (at : ℕ) → at ≡ k + number → Holds at node
EachFrom-at Holds number [] k node each found at is = cc
EachFrom-at Holds number (first ∷ nodes) zero node each found at is =
    let same : first ≡ node = cc in let here : number ≡ at = omega (arith, is) in subst (λ (n : ℕ). Holds n node) here (subst (Holds number) same each.0)
EachFrom-at Holds number (first ∷ nodes) (suc k) node each found at is = EachFrom-at Holds (suc number) nodes k node each.1 found at (omega (arith, is))

-- a node without a physical stream has elements without bits
abbrev IsNarrow : StreamNode → Type 0
IsNarrow node = node.phys ≡ None → width_of node.element ≡ 0

-- all that is said of one node
record IsPlaced (nodes : List StreamNode) (number : ℕ) (node : StreamNode) : Type 0 where
  stands : StandsAt nodes number node
  dims : HasDims nodes node
  narrow : IsNarrow node

none_narrow : (wide other : Bool) (width physical : ℕ) → nat_lt 0 width ≡ wide → cond (wide || other) (Some physical) None ≡ None → width ≡ 0
none_narrow true other width physical is none = cc
none_narrow false other width physical is none = grind (arith, nat_tests)

node-narrow : (names : List (List ℕ)) (place : Place) (number physical : ℕ) (element user : Ltype) (settings : Settings)
    → IsNarrow (node_at names place number physical element user settings)
node-narrow names place number physical element user settings none =
    none_narrow (nat_lt 0 (width_of element)) (nat_lt 0 (width_of user) || settings.keep) (width_of element) physical refl
    (ap (λ b. cond b (Some physical) None) (by_or (nat_lt 0 (width_of element)) (nat_lt 0 (width_of user)) settings.keep) ∙ none)
  where
    by_or : (a b c : Bool) → (a || (b || c)) ≡ (a || b || c)
    by_or true b c = refl
    by_or false b c = refl

mutual
  placed-in : (nodes : List StreamNode) (names : List (List ℕ)) (place : Place) (number physical : ℕ) (ltype : Ltype) → IsAround nodes place.parent place.around.dims
      → AreFrom nodes number (nodes_in names place number physical ltype) → EachFrom (IsPlaced nodes) number (nodes_in names place number physical ltype)
  placed-in nodes names place number physical null around from = tt
  placed-in nodes names place number physical (bits width) around from = tt
  placed-in nodes names place number physical (group parts) around from = placed-in_parts nodes names place number physical parts around from
  placed-in nodes names place number physical (union parts) around from = placed-in_parts nodes names place number physical parts around from
  placed-in nodes names place number physical (stream element user settings) around from =
      let inner = AreFrom-inside nodes names place number physical element user settings from in
      let before = (if is_physical element user settings then 1 else 0) + physical in (
        record {
          stands = record { place = place_inside place number settings; physical = before; parent = refl; dims = refl; reversed = refl; root = refl; inner = inner.1 };
          dims = record { around = place.around.dims; is_around = around; dims = refl };
          narrow = node-narrow names place number physical element user settings;
        },
        placed-in nodes names (place_inside place number settings) (suc number) before element
            (node_at names place number physical element user settings, inner.0, refl) inner.1,
      )

  placed-in_parts : (nodes : List StreamNode) (names : List (List ℕ)) (place : Place) (number physical : ℕ) (parts : Parts) → IsAround nodes place.parent place.around.dims
      → AreFrom nodes number (nodes_in_parts names place number physical parts) → EachFrom (IsPlaced nodes) number (nodes_in_parts names place number physical parts)
  placed-in_parts nodes names place number physical no_parts around from = tt
  placed-in_parts nodes names place number physical (part name ltype more) around from =
      EachFrom-append (IsPlaced nodes) number (nodes_in (names ++ name ∷ []) place number physical ltype)
      (nodes_in_parts names place (number_of_streams ltype + number) (number_of_physical ltype + physical) more) (number_of_streams ltype + number)
      (ap (λ (n : ℕ). n + number) (sym (nodes_in-length (names ++ name ∷ []) place number physical ltype)))
      (placed-in nodes (names ++ name ∷ []) place number physical ltype around (AreFrom-part nodes names place number physical name ltype more from))
      (placed-in_parts nodes names place (number_of_streams ltype + number) (number_of_physical ltype + physical) more around
      (AreFrom-parts nodes names place number physical name ltype more from))

placed : (ltype : Ltype) (number : ℕ) (node : StreamNode) → slice_get (nodes_of ltype) number ≡ Some node → IsPlaced (nodes_of ltype) number node
placed ltype number node found =
    EachFrom-at (IsPlaced (nodes_of ltype)) 0 (nodes_of ltype) number node (placed-in (nodes_of ltype) [] outermost_place 0 0 ltype refl (AreFrom-all (nodes_of ltype))) found number
    (omega arith)

pub nodes_stand : NodesStand
nodes_stand ltype number node found = (placed ltype number node found).stands

pub nodes_have_dims : NodesHaveDims
nodes_have_dims ltype number node found = (placed ltype number node found).dims

-- ---- roots in the order of the recursion

gathered-append : {A : Type 0} (at : ℕ → StreamNode → List A) (number : ℕ) (front back : List StreamNode) (next : ℕ) → next ≡ length front + number
    → gathered at number (front ++ back) ≡ gathered at number front ++ gathered at next back
gathered-append at number [] back next is = (let same : number ≡ next = omega (arith, is) in ap (λ (n : ℕ). gathered at n back) same)
gathered-append at number (node ∷ front) back next is =
    ap (λ l. at number node ++ l) (gathered-append at (suc number) front back next (omega (arith, is)))
    ∙ sym (append_assoc (at number node) (gathered at (suc number) front) (gathered at next back))

-- the list gathered of the nodes of a part, and of the parts behind it
pub gathered-part : {A : Type 0} (at : ℕ → StreamNode → List A) (names : List (List ℕ)) (place : Place) (number physical : ℕ) (name : List ℕ) (ltype : Ltype) (more : Parts)
    → gathered at number (nodes_in_parts names place number physical (part name ltype more))
    ≡ gathered at number (nodes_in (names ++ name ∷ []) place number physical ltype)
    ++ gathered at (number_of_streams ltype + number) (nodes_in_parts names place (number_of_streams ltype + number) (number_of_physical ltype + physical) more)
gathered-part at names place number physical name ltype more =
    gathered-append at number (nodes_in (names ++ name ∷ []) place number physical ltype)
    (nodes_in_parts names place (number_of_streams ltype + number) (number_of_physical ltype + physical) more) (number_of_streams ltype + number)
    (ap (λ (n : ℕ). n + number) (sym (nodes_in-length (names ++ name ∷ []) place number physical ltype)))

same_number : (n : ℕ) → (n == n) ≡ true
same_number n = grind (arith, nat_tests)

lower_number : (n m : ℕ) → n < m → (n == m) ≡ false
lower_number n m less = grind (arith, nat_tests)

-- a Stream inside another is a root exactly where its sequences are not tied to those around it
record IsRooted (apart : Bool) (root number : ℕ) : Type 0 where
  test : (root == number) ≡ apart
  below : root < suc number

rooted : (apart : Bool) (parent : Option ℕ) (above root number : ℕ) → parent ≡ Some above → root < number
    → IsRooted apart (cond (not (is_some parent) || apart) number root) number
rooted apart None above root number is less = cc
rooted true (Some one) above root number is less = record { test = same_number number; below = omega arith }
rooted false (Some one) above root number is less = record { test = lower_number root number less; below = omega (arith, less) }

mutual
  roots-in : (names : List (List ℕ)) (place : Place) (number physical : ℕ) (ltype : Ltype) (above : ℕ) → place.parent ≡ Some above → place.root < number
      → gathered streams.root_at number (nodes_in names place number physical ltype) ≡ roots_in number ltype
  roots-in names place number physical null above is less = refl
  roots-in names place number physical (bits width) above is less = refl
  roots-in names place number physical (group parts) above is less = roots-in_parts names place number physical parts above is less
  roots-in names place number physical (union parts) above is less = roots-in_parts names place number physical parts above is less
  roots-in names place number physical (stream element user settings) above is less =
      let root = rooted (is_apart settings.sync) place.parent above place.root number is less in
      let inner = place_inside place number settings in
      let before = (if is_physical element user settings then 1 else 0) + physical in
      ap (λ b. cond b (number ∷ []) [] ++ gathered streams.root_at (suc number) (nodes_in names inner (suc number) before element)) root.test
      ∙ ap (λ (l : List ℕ). cond (is_apart settings.sync) (number ∷ []) [] ++ l) (roots-in names inner (suc number) before element number refl root.below)

  roots-in_parts : (names : List (List ℕ)) (place : Place) (number physical : ℕ) (parts : Parts) (above : ℕ) → place.parent ≡ Some above → place.root < number
      → gathered streams.root_at number (nodes_in_parts names place number physical parts) ≡ roots_in_parts number parts
  roots-in_parts names place number physical no_parts above is less = refl
  roots-in_parts names place number physical (part name ltype more) above is less =
      let next = number_of_streams ltype + number in
      let back = nodes_in_parts names place next (number_of_physical ltype + physical) more in
      gathered-part streams.root_at names place number physical name ltype more
      ∙ ap (λ (l : List ℕ). l ++ gathered streams.root_at next back) (roots-in (names ++ name ∷ []) place number physical ltype above is less)
      ∙ ap (λ (l : List ℕ). roots_in number ltype ++ l)
      (roots-in_parts names place next (number_of_physical ltype + physical) more above is (omega (arith, less)))

pub roots_in_order : RootsInOrder
roots_in_order element user settings =
    ap (λ (l : List ℕ). 0 ∷ l)
    (roots-in [] (place_inside outermost_place 0 settings) 1 ((if is_physical element user settings then 1 else 0) + 0) element 0 refl (omega arith))

-- ---- nodes without a physical stream

record HasChild (nodes : List StreamNode) (number : ℕ) : Type 0 where
  at : ℕ
  child : StreamNode
  told : IsToldBy nodes number at child

is_sync : (sync : Sync) (carried : Bool) → (is_tied sync && carried) ≡ true → (sync ≡ syncs.Sync) × (carried ≡ true)
is_sync syncs.Sync carried is = (refl, is)
is_sync syncs.Flatten carried is = cc
is_sync syncs.Desync carried is = cc
is_sync syncs.FlatDesync carried is = cc

some_phys : (physical : Bool) (number : ℕ) (carried : Bool) → (physical || carried) ≡ true → (is_some (cond physical (Some number) None) || carried) ≡ true
some_phys true number carried is = refl
some_phys false number carried is = is

either_of : {X : Type 0} (one other : Bool) → (one || other) ≡ true → (one ≡ true → X) → (other ≡ true → X) → X
either_of true other is here there = here refl
either_of false other is here there = there is

mutual
  child-in : (nodes : List StreamNode) (names : List (List ℕ)) (place : Place) (number physical : ℕ) (ltype : Ltype) (above : ℕ) → place.parent ≡ Some above
      → AreFrom nodes number (nodes_in names place number physical ltype) → has_carried ltype ≡ true → HasChild nodes above
  child-in nodes names place number physical null above is from has = cc
  child-in nodes names place number physical (bits width) above is from has = cc
  child-in nodes names place number physical (group parts) above is from has = child-in_parts nodes names place number physical parts above is from has
  child-in nodes names place number physical (union parts) above is from has = child-in_parts nodes names place number physical parts above is from has
  child-in nodes names place number physical (stream element user settings) above is from has =
      let both = is_sync settings.sync (is_physical element user settings || has_carried element) has in
      record {
        at = number;
        child = node_at names place number physical element user settings;
        told = record {
          found = (AreFrom-inside nodes names place number physical element user settings from).0;
          parent = is;
          sync = both.0;
          carried = some_phys (is_physical element user settings) physical (has_carried element) both.1;
        };
      }

  child-in_parts : (nodes : List StreamNode) (names : List (List ℕ)) (place : Place) (number physical : ℕ) (parts : Parts) (above : ℕ) → place.parent ≡ Some above
      → AreFrom nodes number (nodes_in_parts names place number physical parts) → have_carried parts ≡ true → HasChild nodes above
  child-in_parts nodes names place number physical no_parts above is from has = cc
  child-in_parts nodes names place number physical (part name ltype more) above is from has =
      either_of (has_carried ltype) (have_carried more) has
      (λ here. child-in nodes (names ++ name ∷ []) place number physical ltype above is (AreFrom-part nodes names place number physical name ltype more from) here)
      (λ there. child-in_parts nodes names place (number_of_streams ltype + number) (number_of_physical ltype + physical) more above is
      (AreFrom-parts nodes names place number physical name ltype more from) there)

-- where there is no path of a node that is not carried, each is carried
first_carried : (first : StreamNode) (more : List StreamNode) (b : Bool) → is_carried first ≡ b
    → slice_get (map (λ (node : StreamNode). node.path) (cond (not b) (first ∷ filter (λ (node : StreamNode). not (is_carried node)) more) (filter (λ (node : StreamNode). not (is_carried node)) more))) 0 ≡ None
    → (is_carried first ≡ true) × (slice_get (uncarried_paths more) 0 ≡ None)
first_carried first more true is none = (is, none)
first_carried first more false is none = cc

all_carried : (nodes : List StreamNode) → slice_get (uncarried_paths nodes) 0 ≡ None → (number : ℕ) (node : StreamNode) → slice_get nodes number ≡ Some node → is_carried node ≡ true
all_carried [] none number node found = cc
all_carried (first ∷ more) none zero node found = (let same : first ≡ node = cc in ap is_carried (sym same) ∙ (first_carried first more (is_carried first) refl none).0)
all_carried (first ∷ more) none (suc number) node found = all_carried more (first_carried first more (is_carried first) refl none).1 number node found

told_of : (phys : Option ℕ) (carried : Bool) → phys ≡ None → (is_some phys || carried) ≡ true → carried ≡ true
told_of None carried none is = is
told_of (Some number) carried none is = cc

pub are_told_where_carried : AreToldWhereCarried
are_told_where_carried ltype none number node found no_phys =
    let is = placed ltype number node found in
    let has = told_of node.phys (has_carried node.element) no_phys (all_carried (nodes_of ltype) none number node found) in
    let child = child-in (nodes_of ltype) node.path is.stands.place (suc number) is.stands.physical node.element number is.stands.parent is.stands.inner has in
    record { narrow = is.narrow no_phys; has = has; at = child.at; child = child.child; told = child.told }
