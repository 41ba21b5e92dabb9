-- The series that are given to nodes, one by one from the last.
use Rattle.std.proofs.Common.{inl, inr, ◌≡◌, ◌∙◌, ◌<◌, ◌≤◌, ℕ, zero, suc, ◌+◌, ◌-◌, Bool, true, false, cond, List, [], ◌∷◌, ◌++◌, length, map, drop, get_or, slice_get, Option, Some, None, refl, sym, ap, subst, arith, length-append}
use Rattle.std.specs.Prelude.{if◌then◌else◌, ◌⊎◌, ◌&&◌, ◌||◌, slice_set}
use Rattle.std.proofs.lemmas.List.{length-drop, length-map}
use Rattle.logical_types.specs.Faults.{IsPlain}
use Rattle.logical_types.specs.Tree.{Ltype, Parts, Settings}
use Rattle.logical_types.specs.Tree as types
use Rattle.logical_types.specs.Width.{width_of}
use Rattle.type_split.specs.Carried.{has_carried, is_tied}
use Rattle.type_split.specs.Elements.{HasElements, IsElementType}
use Rattle.type_split.specs.Nodes.{StreamNode, is_physical, nodes_in, nodes_in_parts, nodes_of, node_at, number_of_physical, number_of_streams, outermost_place, streams_in_parts}
use Rattle.type_split.specs.Standing.{AreFrom}
use Rattle.type_split.specs.Streams.{IsPortSplit, PlainSplit, node_view, plain_split}
use Rattle.type_split.specs.declared.split.Node.{Node}
use Rattle.type_split.specs.declared.split.Phys.{Phys}
use Rattle.type_split.specs.declared.split.Split.{Split}
use Rattle.type_split.proofs.ElementLemmas.{nodes_have_elements}
use Rattle.type_split.proofs.StandingLemmas.{AreFrom-inside, AreFrom-part, AreFrom-parts, nodes_stand}
use Rattle.type_split.proofs.CountLemmas.{nodes_in-length, streams-few}
use Rattle.nest_shape.specs.Tree.{trees_of}
use Rattle.nest_shape.specs.Tree as nests
use Rattle.logical_value.specs.Agreement.{first_of}
use Rattle.logical_value.specs.Tree.{Tree, plain}
use Rattle.std.specs.Prelude.{IfOk, Result, Ok, Err}
use Rattle.nest_shape.specs.declared.nest.Nest.{Nest}
use Rattle.nest_shape.proofs.PlainLemmas.{trees_of-map as nest_trees}
use Rattle.logical_value.specs.declared.value.Value.{Value}
use Rattle.value_views.specs.Giving.{AreGiven, AreLeft, CanJoin, CanUnpack, GiveFrom, IsUnseenNode, first_sync, first_sync_in, plain_series}
use Rattle.value_views.specs.Joining.{HaveWords, IsView, plain_views}
use Rattle.value_views.specs.Series.{series_at}
use Rattle.value_views.specs.Words.{blank_of, blank_series, in_nest, first_carried, first_carried_in, given_at, unpacked}
use Rattle.value_views.proofs.BlankLemmas.{has_shape}
use Rattle.value_views.proofs.GivenLemmas.{given-nodes, node-stream, pair-at, view-found, view_at}
use Rattle.value_views.proofs.JoinLemmas.{one-found, carried-child}
use Rattle.value_views.proofs.NodeLemmas.{Place}
use Rattle.value_views.proofs.ViewLemmas.{all-at}

-- ---- the first Sync Stream

-- a choice by a number, where there is one
abbrev chosen : (ℕ → List Tree) → Option ℕ → Option (List Tree)
chosen given None = None
chosen given (Some number) = Some (given number)

sync-here : (sync_is seen inner : Bool) (given : ℕ → List Tree) (number : ℕ) → (seen || inner) ≡ true
    → (if sync_is && (seen || inner) then Some (given number) else None) ≡ chosen given (if sync_is then Some number else None)
sync-here true seen inner given number carried = ap (λ (b : Bool). if b then Some (given number) else None) carried
sync-here false seen inner given number carried = refl

is-carried : (seen inner : Bool) → (seen ≡ false → inner ≡ true) → (seen || inner) ≡ true
is-carried true inner is = refl
is-carried false inner is = is refl

first-chosen : (given : ℕ → List Tree) (one other : Option ℕ) → first_of (chosen given one) (chosen given other) ≡ chosen given (first_of one other)
first-chosen given None other = refl
first-chosen given (Some number) other = refl

mutual
  sync-found : (given : ℕ → List Tree) (nodes : List StreamNode) → ((n : ℕ) (node : StreamNode) → slice_get nodes n ≡ Some node → node.phys ≡ None → has_carried node.element ≡ true)
      → (names : List (List ℕ)) (place : Place) (number physical : ℕ) (ltype : Ltype) → AreFrom nodes number (nodes_in names place number physical ltype)
      → first_carried given number ltype ≡ chosen given (first_sync number ltype)
  sync-found given nodes carried names place number physical types.null from = refl
  sync-found given nodes carried names place number physical (types.bits width) from = refl
  sync-found given nodes carried names place number physical (types.group parts) from = sync-found_in given nodes carried names place number physical parts from
  sync-found given nodes carried names place number physical (types.union parts) from = sync-found_in given nodes carried names place number physical parts from
  sync-found given nodes carried names place number physical (types.stream element user settings) from =
      let seen = is_physical element user settings in
      let here = (AreFrom-inside nodes names place number physical element user settings from).0 in
      sync-here (is_tied settings.sync) seen (has_carried element) given number
      (is-carried seen (has_carried element)
      (λ unseen. carried number (node_at names place number physical element user settings) here (ap (λ (b : Bool). cond b (Some physical) None) unseen)))

  sync-found_in : (given : ℕ → List Tree) (nodes : List StreamNode) → ((n : ℕ) (node : StreamNode) → slice_get nodes n ≡ Some node → node.phys ≡ None → has_carried node.element ≡ true)
      → (names : List (List ℕ)) (place : Place) (number physical : ℕ) (parts : Parts) → AreFrom nodes number (nodes_in_parts names place number physical parts)
      → first_carried_in given number parts ≡ chosen given (first_sync_in number parts)
  sync-found_in given nodes carried names place number physical types.no_parts from = refl
  sync-found_in given nodes carried names place number physical (types.part name ltype more) from =
      let next = number_of_streams ltype + number in
      ap (λ (o : Option (List Tree)). first_of o (first_carried_in given next more))
      (sync-found given nodes carried (names ++ name ∷ []) place number physical ltype (AreFrom-part nodes names place number physical name ltype more from))
      ∙ ap (first_of (chosen given (first_sync number ltype)))
      (sync-found_in given nodes carried names place next (number_of_physical ltype + physical) more (AreFrom-parts nodes names place number physical name ltype more from))
      ∙ first-chosen given (first_sync number ltype) (first_sync_in next more)

record IsWithin (number count : ℕ) (found : ℕ) : Type 0 where
  above : number ≤ found
  below : found < count + number

first-is : (one other : Option ℕ) (found : ℕ) → first_of one other ≡ Some found → (one ≡ Some found) ⊎ (other ≡ Some found)
first-is None other found is = inr is
first-is (Some x) other found is = inl is

mutual
  sync-within : (number : ℕ) (ltype : Ltype) (found : ℕ) → first_sync number ltype ≡ Some found → IsWithin number (number_of_streams ltype) found
  sync-within number types.null found is = cc
  sync-within number (types.bits width) found is = cc
  sync-within number (types.group parts) found is = sync-within_in number parts found is
  sync-within number (types.union parts) found is = sync-within_in number parts found is
  sync-within number (types.stream element user settings) found is = here (is_tied settings.sync) is
    where
      here : (b : Bool) → (if b then Some number else None) ≡ Some found → IsWithin number (suc (number_of_streams element)) found
      here true is = (let same : number ≡ found = cc in record { above = omega (arith, same); below = omega (arith, same) })
      here false is = cc

  sync-within_in : (number : ℕ) (parts : Parts) (found : ℕ) → first_sync_in number parts ≡ Some found → IsWithin number (streams_in_parts parts) found
  sync-within_in number types.no_parts found is = cc
  sync-within_in number (types.part name ltype more) found is = elim (first-is (first_sync number ltype) (first_sync_in (number_of_streams ltype + number) more) found is) [
    | inl here ↦ (let w = sync-within number ltype found here in record { above = w.above; below = (let b = w.below in omega (arith, b)) })
    | inr there ↦ (let w = sync-within_in (number_of_streams ltype + number) more found there in let a = w.above in let b = w.below in record { above = omega (arith, a); below = omega (arith, b) })
  ]

-- ---- a node of a split

pub node-at : (split : Split) (number : ℕ) (slice : List Node) (node : Node) → slice ≡ split.nodes → number < length split.nodes → node ≡ get_or slice number node
    → slice_get (plain_split split).nodes number ≡ Some (node_view node)
node-at split number slice node are less is = found split.nodes number less (is ∙ ap (λ (l : List Node). get_or l number node) are)
  where
    found : (l : List Node) (at : ℕ) → at < length l → node ≡ get_or l at node → slice_get (map node_view l) at ≡ Some (node_view node)
    found [] at less is = absurd (omega (arith, less))
    found (one ∷ l) zero less is = ap (λ (n : Node). Some (node_view n)) (sym is)
    found (one ∷ l) (suc at) less is = found l at (omega (arith, less)) is

-- the view of a node's physical stream
pub record HasWordsAt (split : PlainSplit) (views : List (List nests.Tree)) (number phys : ℕ) (node : StreamNode) : Type 0 where
  pub within : phys < length views
  pub words : HaveWords node.element (trees_of (view_at phys views))
  pub given : map (unpacked node.element) (view_at phys views) ≡ given_at split views number
  pub element : IsElementType node.element

pub found-within : {A : Type 0} (l : List A) (at : ℕ) (x : A) → slice_get l at ≡ Some x → at < length l
found-within [] at x found = cc
found-within (y ∷ l) zero x found = omega arith
found-within (y ∷ l) (suc at) x found = (let less = found-within l at x found in omega (arith, less))

pub words-of_node : (split : PlainSplit) (views : List (List nests.Tree)) (number phys : ℕ) (node : StreamNode) → CanJoin split views → slice_get split.nodes number ≡ Some node
    → node.phys ≡ Some phys → HasWordsAt split views number phys node
words-of_node split views number phys node can found seen =
    let one = node-stream split can.port number phys node found seen in
    let pair = pair-at (IsView split.nodes) split.streams views phys one.one can.are one.found in
    let view = pair.holds in
    let at : slice_get split.nodes one.one.node ≡ Some node = subst (λ (n : ℕ). slice_get split.nodes n ≡ Some node) (sym one.node_is) found in
    let same : view.node ≡ node = one-found (slice_get split.nodes one.one.node) view.node node view.found at in
    record {
      within = found-within views phys pair.other pair.found;
      words = subst (λ (v : List nests.Tree). HaveWords node.element (trees_of v)) (sym (view-found views phys pair.other pair.found))
          (subst (λ (n : StreamNode). HaveWords n.element (trees_of pair.other)) same view.words);
      given = sym ((given-nodes split can.port views number node found).seen phys seen);
      element = all-at HasElements split.nodes number node (nodes_have_elements split can.port) found;
    }

record HasNumber (found : Option ℕ) : Type 0 where
  number : ℕ
  is : found ≡ Some number

chosen-some : (given : ℕ → List Tree) (found : Option ℕ) (shape : List Tree) → chosen given found ≡ Some shape → HasNumber found
chosen-some given None shape is = cc
chosen-some given (Some number) shape is = record { number = number; is = refl }

pub nodes-few : (split : PlainSplit) → IsPortSplit split → length split.nodes ≤ 65536
nodes-few split is =
    let long : length split.nodes ≡ number_of_streams is.ltype = ap (λ (s : PlainSplit). length s.nodes) is.is ∙ nodes_in-length [] outermost_place 0 0 is.ltype in
    let streams = streams-few is.ltype in
    let nodes = is.few in omega (arith, long, streams, nodes)

-- the Sync Stream that gives a node its lists
pub record HasShapeAt (split : PlainSplit) (views : List (List nests.Tree)) (number : ℕ) (node : StreamNode) (found : Option ℕ) : Type 0 where
  pub child : ℕ
  pub is : found ≡ Some child
  pub above : suc number ≤ child
  pub below : child < length split.nodes
  pub given : blank_series node.element node.params.dims (Some (given_at split views child)) ≡ given_at split views number
  pub element : IsElementType node.element
  pub narrow : width_of node.element ≡ 0
  pub few : number_of_streams node.element + suc number ≤ 65536
  pub small : child ≤ 65536

pub few-inside : (split : PlainSplit) (number : ℕ) (node : StreamNode) → IsPortSplit split → slice_get split.nodes number ≡ Some node
    → number_of_streams node.element + suc number ≤ length split.nodes
few-inside split number node is found =
    let stands = nodes_stand is.ltype number node (ap (λ (s : PlainSplit). slice_get s.nodes number) (sym is.is) ∙ found) in
    let inner = nodes_in node.path stands.place (suc number) stands.physical node.element in
    let long : length (drop (suc number) (nodes_of is.ltype)) ≡ length (inner ++ stands.inner.rest) = ap length stands.inner.are in
    let parts = length-append inner stands.inner.rest in
    let count = nodes_in-length node.path stands.place (suc number) stands.physical node.element in
    let dropped = length-drop (suc number) (nodes_of is.ltype) in
    let within = found-within split.nodes number node found in
    let all : length split.nodes ≡ length (nodes_of is.ltype) = ap (λ (s : PlainSplit). length s.nodes) is.is in
    omega (arith, long, parts, count, dropped, within, all)

pub shape-of_node : (split : PlainSplit) (views : List (List nests.Tree)) (number : ℕ) (node : StreamNode) → CanJoin split views → slice_get split.nodes number ≡ Some node → node.phys ≡ None
    → HasShapeAt split views number node (first_sync (suc number) node.element)
shape-of_node split views number node can found unseen =
    let child = carried-child split can.port can.carried number node found unseen in
    let port = can.port in
    let given = given_at split views in
    let stands = nodes_stand port.ltype number node (ap (λ (s : PlainSplit). slice_get s.nodes number) (sym port.is) ∙ found) in
    let carried : (n : ℕ) (one : StreamNode) → slice_get (nodes_of port.ltype) n ≡ Some one → one.phys ≡ None → has_carried one.element ≡ true =
    (λ n one there none. (carried-child split port can.carried n one (ap (λ (s : PlainSplit). slice_get s.nodes n) port.is ∙ there) none).has) in
    let same = sync-found given (nodes_of port.ltype) carried node.path stands.place (suc number) stands.physical node.element stands.inner in
    let shape = has_shape given (suc number) node.element child.has in
    let few = few-inside split number node port found in
    let all = nodes-few split port in
    let is = chosen-some given (first_sync (suc number) node.element) shape.shape (sym same ∙ shape.is) in
    let within = sync-within (suc number) node.element is.number is.is in
    let low = within.above in
    let high = within.below in
    record {
      child = is.number;
      is = is.is;
      above = low;
      below = omega (arith, few, high);
      given = ap (λ (o : Option (List Tree)). blank_series node.element node.params.dims o) (ap (λ (o : Option ℕ). chosen given o) (sym is.is) ∙ sym same)
          ∙ sym ((given-nodes split port views number node found).unseen unseen);
      element = all-at HasElements split.nodes number node (nodes_have_elements split port) found;
      narrow = child.narrow;
      few = omega (arith, few, all);
      small = omega (arith, few, high, all);
    }

pub ready-blank : (split : Split) (views : List (List nests.Tree)) (number : ℕ) (slice : List Node) (node : Node) → CanJoin (plain_split split) views → IsUnseenNode (plain_split split) number
    → slice ≡ split.nodes → node ≡ get_or slice number node → HasShapeAt (plain_split split) views number (node_view node) (first_sync (number + 1) (types.plain node.element.now))
ready-blank split views number slice node can unseen are is =
    let within = found-within (plain_split split).nodes number unseen.node unseen.found in
    let long = length-map split.nodes node_view in
    let found = node-at split number slice node are (omega (arith, within, long)) is in
    let same = one-found (slice_get (plain_split split).nodes number) (node_view node) unseen.node found unseen.found in
    let next : suc number ≡ number + 1 = omega arith in
    subst (λ (n : ℕ). HasShapeAt (plain_split split) views number (node_view node) (first_sync n (types.plain node.element.now))) next
    (shape-of_node (plain_split split) views number (node_view node) can found (ap (λ (n : StreamNode). n.phys) same ∙ unseen.unseen))

-- ---- the views that are left

view-taken : (views : List (List Nest)) (at : ℕ) (view : List Nest) → view ≡ get_or views at [] → view_at at (plain_views views) ≡ map nests.plain view
view-taken [] zero view is = ap (λ (v : List Nest). map nests.plain v) (sym is)
view-taken [] (suc at) view is = ap (λ (v : List Nest). map nests.plain v) (sym is)
view-taken (one ∷ views) zero view is = ap (λ (v : List Nest). map nests.plain v) (sym is)
view-taken (one ∷ views) (suc at) view is = view-taken views at view is

view-other : (views : List (List Nest)) (at k : ℕ) → (at ≡ k → ⊥) → view_at k (plain_views (slice_set views at [])) ≡ view_at k (plain_views views)
view-other [] at k apart = refl
view-other (first ∷ views) zero zero apart = absurd (apart refl)
view-other (first ∷ views) zero (suc k) apart = refl
view-other (first ∷ views) (suc at) zero apart = refl
view-other (first ∷ views) (suc at) (suc k) apart = view-other views at k (λ same. apart (ap suc same))

-- two nodes have not the same physical stream
streams-apart : (split : PlainSplit) → IsPortSplit split → (k number phys : ℕ) (one node : StreamNode) → slice_get split.nodes k ≡ Some one → one.phys ≡ Some phys
    → slice_get split.nodes number ≡ Some node → node.phys ≡ Some phys → k ≡ number
streams-apart split port k number phys one node at there found seen =
    let that = node-stream split port k phys one at there in
    let here = node-stream split port number phys node found seen in
    let same : that.one ≡ here.one = one-found (slice_get split.streams phys) that.one here.one that.found here.found in
    sym that.node_is ∙ ap (λ (s : Phys). s.node) same ∙ here.node_is

-- a node without a view leaves the views of those before it
pub left-unseen : (split : PlainSplit) (views left : List (List nests.Tree)) (number : ℕ) → AreLeft split views (suc number) left → AreLeft split views number left
left-unseen split views left number are = record { each = λ k phys node less at there. are.each k phys node (omega (arith, less)) at there }

left-seen : (split : PlainSplit) (views : List (List nests.Tree)) (number phys : ℕ) (node : StreamNode) (old new : List (List Nest)) → IsPortSplit split
    → AreLeft split views (suc number) (plain_views old) → slice_get split.nodes number ≡ Some node → node.phys ≡ Some phys → new ≡ slice_set old phys [] → AreLeft split views number (plain_views new)
left-seen split views number phys node old new port are found seen set =
    subst (λ (l : List (List Nest)). AreLeft split views number (plain_views l)) (sym set)
    (record {
      each = λ k other one less at there.
          view-other old phys other
          (λ same. (let equal = streams-apart split port k number phys one node at (there ∙ ap (λ (n : ℕ). Some n) (sym same)) found seen in omega (arith, less, equal)))
          ∙ are.each k other one (omega (arith, less)) at there;
    })

-- the view of the node of this number is taken out
pub record TakesView (split : PlainSplit) (views : List (List nests.Tree)) (number : ℕ) (element : Ltype) (view : List Nest) (new : List (List Nest)) : Type 0 where
  pub can : CanUnpack element (HaveWords element (nests.plain_nests view))
  pub given : map (unpacked element) (map nests.plain view) ≡ given_at split views number
  pub left : AreLeft split views number (plain_views new)

takes-view : (split : PlainSplit) (views : List (List nests.Tree)) (number phys : ℕ) (node : StreamNode) (view : List Nest) (new : List (List Nest)) → HasWordsAt split views number phys node
    → view_at phys views ≡ map nests.plain view → AreLeft split views number (plain_views new) → TakesView split views number node.element view new
takes-view split views number phys node view new has placed left = record {
  can = record { plain = has.element.plain; few = has.element.few; words = subst (HaveWords node.element) (ap trees_of placed ∙ nest_trees view) has.words };
  given = ap (λ (v : List nests.Tree). map (unpacked node.element) v) (sym placed) ∙ has.given;
  left = left;
}

pub seen-view : (split : Split) (views : List (List nests.Tree)) (number phys : ℕ) (slice : List Node) (node : Node) (element : Ltype) (old new : List (List Nest)) (view : List Nest)
    → CanJoin (plain_split split) views → AreLeft (plain_split split) views (suc number) (plain_views old) → number < length split.nodes → slice ≡ split.nodes → node ≡ get_or slice number node
    → node.phys ≡ Some phys → element ≡ types.plain node.element.now → view ≡ get_or old phys [] → new ≡ slice_set old phys [] → TakesView (plain_split split) views number element view new
seen-view split views number phys slice node element old new view can are less nodes is seen same taken set =
    let whole = plain_split split in
    let found = node-at split number slice node nodes less is in
    let placed = sym (are.each number phys (node_view node) (omega arith) found seen) ∙ view-taken old phys view taken in
    let left = left-seen whole views number phys (node_view node) old new can.port are found seen set in
    subst (λ (t : Ltype). TakesView whole views number t view new) (sym same)
    (takes-view whole views number phys (node_view node) view new (words-of_node whole views number phys (node_view node) can found seen) placed left)

pub ok-taken : {E : Type 0} (result : Result (List Value) E) (one other : List Tree) (Left : Type 0) → one ≡ other → Left → IfOk result (λ series. map plain series ≡ one)
    → IfOk result (λ series. (map plain series ≡ other) × Left)
ok-taken (Ok value) one other Left same left is = (is ∙ same, left)
ok-taken (Err error) one other Left same left is = tt

-- ---- the series behind a node

-- the series at a place of series
pub series-placed : (series : List (List Value)) (at : ℕ) (one : List Value) → at < length series → one ≡ get_or series at one → series_at at (plain_series series) ≡ map plain one
series-placed [] at one less is = absurd (omega (arith, less))
series-placed (first ∷ series) zero one less is = ap (λ (v : List Value). map plain v) (sym is)
series-placed (first ∷ series) (suc at) one less is = series-placed series at one (omega (arith, less)) is

pub ok-series : {E : Type 0} (result : Result (List Value) E) (one other : List Tree) → one ≡ other → IfOk result (λ series. map plain series ≡ one) → IfOk result (λ series. map plain series ≡ other)
ok-series (Ok value) one other same is = is ∙ same
ok-series (Err error) one other same is = tt

pub blank-given : (split : PlainSplit) (views : List (List nests.Tree)) (number child dims : ℕ) (node : StreamNode) (element : Ltype) (given : List (List Value)) (shape slice : List Value)
    (found : Option ℕ) → (has : HasShapeAt split views number node found) → found ≡ Some child → element ≡ node.element → dims ≡ node.params.dims
    → AreGiven split views (suc number) (plain_series given) → shape ≡ get_or given child shape → slice ≡ shape
    → map (in_nest (λ (v : Tree). blank_of element) dims) (map plain slice) ≡ given_at split views number
blank-given split views number child dims node element given shape slice found has is same deep are placed equal =
    let number_is : has.child ≡ child = one-found found has.child child has.is is in
    let below = has.below in
    let above = has.above in
    let long = are.long in
    let count = length-map given (λ (v : List Value). map plain v) in
    let here = series-placed given child shape (omega (arith, below, long, count, number_is)) placed in
    ap (λ (t : Ltype). map (in_nest (λ (v : Tree). blank_of t) dims) (map plain slice)) same
    ∙ ap (λ (d : ℕ). map (in_nest (λ (v : Tree). blank_of node.element) d) (map plain slice)) deep
    ∙ ap (λ (l : List Tree). blank_series node.element node.params.dims (Some l))
    (ap (map plain) equal ∙ sym here ∙ are.each child (omega (arith, above, number_is)) (omega (arith, below, number_is)) ∙ ap (given_at split views) (sym number_is))
    ∙ has.given

pub unseen-none : (found : Option ℕ) (child : ℕ) → None ≡ found → found ≡ Some child → ⊥
unseen-none None child is there = cc
unseen-none (Some n) child is there = cc

pub unseen-plain : (one other : Ltype) → one ≡ other → IsPlain one → IsPlain other
unseen-plain one other same is = subst IsPlain same is

-- ---- one series more

put-here : (series : List (List Value)) (at : ℕ) (one : List Value) → at < length series → series_at at (plain_series (slice_set series at one)) ≡ map plain one
put-here [] at one less = absurd (omega (arith, less))
put-here (first ∷ series) zero one less = refl
put-here (first ∷ series) (suc at) one less = put-here series at one (omega (arith, less))

put-other : (series : List (List Value)) (at k : ℕ) (one : List Value) → (at ≡ k → ⊥) → series_at k (plain_series (slice_set series at one)) ≡ series_at k (plain_series series)
put-other [] at k one apart = refl
put-other (first ∷ series) zero zero one apart = absurd (apart refl)
put-other (first ∷ series) zero (suc k) one apart = refl
put-other (first ∷ series) (suc at) zero one apart = refl
put-other (first ∷ series) (suc at) (suc k) one apart = put-other series at k one (λ same. apart (ap suc same))

put-length : (series : List (List Value)) (at : ℕ) (one : List Value) → length (slice_set series at one) ≡ length series
put-length [] at one = refl
put-length (first ∷ series) zero one = refl
put-length (first ∷ series) (suc at) one = ap suc (put-length series at one)

-- what holds of the nodes from this one on holds of those behind the one before it
pub behind-one : (split : PlainSplit) (views left : List (List nests.Tree)) (number : ℕ) (series slice : List (List Value)) → 1 ≤ number → slice ≡ series
    → GiveFrom split views number (plain_series series) → AreLeft split views number left
    → GiveFrom split views (suc (number - 1)) (plain_series slice) × AreLeft split views (suc (number - 1)) left
behind-one split views left number series slice some is given are =
    let same : number ≡ suc (number - 1) = omega (arith, some) in (
      subst (λ (l : List (List Value)). GiveFrom split views (suc (number - 1)) (plain_series l)) (sym is) (subst (λ (n : ℕ). GiveFrom split views n (plain_series series)) same given),
      subst (λ (n : ℕ). AreLeft split views n left) same are,
    )

pub given-more : (split : PlainSplit) (views : List (List nests.Tree)) (number : ℕ) (old new : List (List Value)) (one : List Value) → 1 ≤ number → number ≤ length split.nodes
    → AreGiven split views number (plain_series old) → map plain one ≡ given_at split views (number - 1) → new ≡ slice_set old (number - 1) one
    → AreGiven split views (number - 1) (plain_series new)
given-more split views zero old new one some within given is set = absurd (omega (arith, some))
given-more split views (suc at) old new one some within given is set =
    let same : suc at - 1 ≡ at = omega arith in
    let count = length-map old (λ (v : List Value). map plain v) in
    let long = given.long in
    subst (λ (n : ℕ). AreGiven split views n (plain_series new)) (sym same)
    (subst (λ (l : List (List Value)). AreGiven split views at (plain_series l)) (sym (set ∙ ap (λ (n : ℕ). slice_set old n one) same))
    (record {
      long = length-map (slice_set old at one) (λ (v : List Value). map plain v) ∙ put-length old at one ∙ sym count ∙ long;
      each = λ k above below. elim (at_or at k) [
        | inl here ↦ ap (λ (n : ℕ). series_at n (plain_series (slice_set old at one))) (sym here) ∙ put-here old at one (omega (arith, within, long, count))
            ∙ is ∙ ap (given_at split views) (same ∙ here)
        | inr other ↦ put-other old at k one other ∙ given.each k (omega (arith, above, other)) below
      ];
    }))
  where
    at_or : (n m : ℕ) → (n ≡ m) ⊎ (n ≡ m → ⊥)
    at_or zero zero = inl refl
    at_or zero (suc m) = inr (λ e. absurd (omega (arith, e)))
    at_or (suc n) zero = inr (λ e. absurd (omega (arith, e)))
    at_or (suc n) (suc m) = elim (at_or n m) [ inl e ↦ inl (ap suc e) | inr e ↦ inr (λ f. e (omega (arith, f))) ]
