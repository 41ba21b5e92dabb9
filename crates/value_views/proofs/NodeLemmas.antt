-- The nodes of a port beside their series: dimensionalities, types of elements, and roots.
use Rattle.std.proofs.Common.{◌≡◌, ◌∙◌, ℕ, zero, suc, ◌+◌, ◌<◌, ◌≤◌, Bool, true, false, ◌&&◌, cond, List, [], ◌∷◌, ◌++◌, length, map, drop, get_or, slice_get, Option, Some, None, refl, sym, ap, subst, arith}
use Rattle.std.specs.Prelude.{if◌then◌else◌}
use Rattle.std.proofs.lemmas.List.{map-append, length-map}
use Rattle.logical_types.specs.Faults.{dims_taken_over, effective_dims}
use Rattle.logical_types.specs.Size.{number_of_nodes}
use Rattle.logical_types.specs.Synchronicity.{is_apart}
use Rattle.logical_types.specs.Width.{width_of}
use Rattle.logical_types.specs.Tree.{Ltype, Parts, Settings, plain, stream}
use Rattle.logical_types.specs.Tree as types
use Rattle.logical_types.specs.declared.ltype.Sync.{Sync}
use Rattle.type_split.specs.Nodes.{StreamNode, is_physical, nodes_in, nodes_in_parts, node_at, number_of_physical, number_of_streams, nodes_of, outermost_place, place_inside, streams_in_parts}
use Rattle.type_split.specs.Standing.{AreFrom, roots_in, roots_in_parts}
use Rattle.type_split.specs.Streams.{IsPortSplit, PlainSplit, gathered, node_view, phys_of, plain_split, split_of, stream_at, stream_in}
use Rattle.type_split.specs.declared.split.Node.{Node}
use Rattle.type_split.specs.declared.split.Phys.{Phys}
use Rattle.type_split.specs.declared.split.Split.{Split}
use Rattle.type_split.proofs.CountLemmas.{nodes_in-length, streams-few}
use Rattle.type_split.proofs.StandingLemmas.{AreFrom-inside, AreFrom-node, AreFrom-all, AreFrom-part, AreFrom-parts, roots_in_order}
use Rattle.logical_value.specs.Fits.{fit_roots, fits_series}
use Rattle.logical_value.specs.Tree.{Tree}
use Rattle.value_views.specs.Series.{replaced, first_part, other_parts, deep, dims_inside, series_inside, roots_behind, number_of_roots, roots_of_parts, first_series, series_in, series_in_parts, series_of_nodes, series_at}
use Rattle.value_views.specs.Way.{NodeType, led, Leads, as_root, root_types, root_types_in_parts, type_of_node, type_of_series, HasNone, LeadsInPort, LeadsToNode, root_of}
use Rattle.value_views.specs.declared.way.Finding.{Finding}
use Rattle.value_views.specs.declared.way.Step.{Step}
use Rattle.value_views.specs.declared.way.Step.TheVariants as steps

-- the type of places, which `type_split` keeps to itself
abbrev type_of : {A : Type 0} → A → Type 0
type_of {A = A} one = A

abbrev pub Place : Type 0
Place = type_of outermost_place

-- ---- dimensionalities

pub deep-is : (around own : ℕ) → deep around own ≡ own + around
deep-is zero own = omega arith
deep-is (suc around) own = omega (arith, deep-is around own)

pub dims-are : (sync : Sync) (around dims own : ℕ) → around ≡ dims → effective_dims own sync around ≡ dims_inside sync dims own
dims-are sync around dims own is = ap (λ (d : ℕ). own + dims_taken_over sync d) is ∙ sym (deep-is (dims_taken_over sync dims) own)

-- ---- the types of nodes

mutual
  pub types-in : (names : List (List ℕ)) (place : Place) (number physical : ℕ) (ltype : Ltype) (dims : ℕ) (series : List Tree) (roots : List (List Tree)) → place.around.dims ≡ dims
      → map type_of_node (nodes_in names place number physical ltype) ≡ map type_of_series (series_in dims series roots ltype)
  types-in names place number physical types.null dims series roots around = refl
  types-in names place number physical (types.bits width) dims series roots around = refl
  types-in names place number physical (types.group parts) dims series roots around = types-in_parts names place number physical parts dims series roots around
  types-in names place number physical (types.union parts) dims series roots around = types-in_parts names place number physical parts dims series roots around
  types-in names place number physical (types.stream element user settings) dims series roots around =
      let inner = dims_inside settings.sync dims settings.dims in
      let same : effective_dims settings.dims settings.sync place.around.dims ≡ inner = dims-are settings.sync place.around.dims dims settings.dims around in
      let before = (if is_physical element user settings then 1 else 0) + physical in
      ap (λ (d : ℕ). record { dims = d; element = element } ∷ map type_of_node (nodes_in names (place_inside place number settings) (suc number) before element)) same
      ∙ ap (λ (l : List NodeType). record { dims = inner; element = element } ∷ l)
      (types-in names (place_inside place number settings) (suc number) before element inner (series_inside settings.sync dims series roots) (roots_behind settings.sync roots) same)

  types-in_parts : (names : List (List ℕ)) (place : Place) (number physical : ℕ) (parts : Parts) (dims : ℕ) (series : List Tree) (roots : List (List Tree)) → place.around.dims ≡ dims
      → map type_of_node (nodes_in_parts names place number physical parts) ≡ map type_of_series (series_in_parts dims series roots parts)
  types-in_parts names place number physical types.no_parts dims series roots around = refl
  types-in_parts names place number physical (types.part name ltype more) dims series roots around =
      let first = nodes_in (names ++ name ∷ []) place number physical ltype in
      let rest = nodes_in_parts names place (number_of_streams ltype + number) (number_of_physical ltype + physical) more in
      let one = series_in dims (replaced first_part dims series) roots ltype in
      let others = series_in_parts dims (replaced other_parts dims series) (drop (number_of_roots ltype) roots) more in
      map-append type_of_node first rest
      ∙ ap (λ (l : List NodeType). l ++ map type_of_node rest) (types-in (names ++ name ∷ []) place number physical ltype dims (replaced first_part dims series) roots around)
      ∙ ap (λ (l : List NodeType). map type_of_series one ++ l)
      (types-in_parts names place (number_of_streams ltype + number) (number_of_physical ltype + physical) more dims (replaced other_parts dims series)
      (drop (number_of_roots ltype) roots) around)
      ∙ sym (map-append type_of_series one others)

-- ---- the types of roots

abbrev typed : Option StreamNode → Option NodeType
typed None = None
typed (Some node) = Some (type_of_node node)

abbrev type_at : List StreamNode → ℕ → Option NodeType
type_at nodes number = typed (slice_get nodes number)

root-here : (f : ℕ → Option NodeType) (apart : Bool) (number : ℕ) (others : List ℕ) (here : NodeType) (more : List NodeType) → f number ≡ Some here → map f others ≡ map Some more
    → map f (cond apart (number ∷ []) [] ++ others) ≡ map Some (cond apart (here ∷ []) [] ++ more)
root-here f true number others here more is are = ap (λ (o : Option NodeType). o ∷ map f others) is ∙ ap (λ (l : List (Option NodeType)). Some here ∷ l) are
root-here f false number others here more is are = are

mutual
  roots-typed : (nodes : List StreamNode) (names : List (List ℕ)) (place : Place) (number physical : ℕ) (ltype : Ltype) (dims : ℕ) → place.around.dims ≡ dims
      → AreFrom nodes number (nodes_in names place number physical ltype) → map (type_at nodes) (roots_in number ltype) ≡ map Some (root_types dims ltype)
  roots-typed nodes names place number physical types.null dims around from = refl
  roots-typed nodes names place number physical (types.bits width) dims around from = refl
  roots-typed nodes names place number physical (types.group parts) dims around from = roots-typed_in_parts nodes names place number physical parts dims around from
  roots-typed nodes names place number physical (types.union parts) dims around from = roots-typed_in_parts nodes names place number physical parts dims around from
  roots-typed nodes names place number physical (types.stream element user settings) dims around from =
      let inner = dims_inside settings.sync dims settings.dims in
      let same : effective_dims settings.dims settings.sync place.around.dims ≡ inner = dims-are settings.sync place.around.dims dims settings.dims around in
      let inside = AreFrom-inside nodes names place number physical element user settings from in
      root-here (type_at nodes) (is_apart settings.sync) number (roots_in (suc number) element) (record { dims = inner; element = element }) (root_types inner element)
      (ap typed inside.0 ∙ ap (λ (d : ℕ). Some (record { dims = d; element = element })) same)
      (roots-typed nodes names (place_inside place number settings) (suc number) ((if is_physical element user settings then 1 else 0) + physical) element inner same inside.1)

  roots-typed_in_parts : (nodes : List StreamNode) (names : List (List ℕ)) (place : Place) (number physical : ℕ) (parts : Parts) (dims : ℕ) → place.around.dims ≡ dims
      → AreFrom nodes number (nodes_in_parts names place number physical parts) → map (type_at nodes) (roots_in_parts number parts) ≡ map Some (root_types_in_parts dims parts)
  roots-typed_in_parts nodes names place number physical types.no_parts dims around from = refl
  roots-typed_in_parts nodes names place number physical (types.part name ltype more) dims around from =
      let next = number_of_streams ltype + number in
      map-append (type_at nodes) (roots_in number ltype) (roots_in_parts next more)
      ∙ ap (λ (l : List (Option NodeType)). l ++ map (type_at nodes) (roots_in_parts next more))
      (roots-typed nodes (names ++ name ∷ []) place number physical ltype dims around (AreFrom-part nodes names place number physical name ltype more from))
      ∙ ap (λ (l : List (Option NodeType)). map Some (root_types dims ltype) ++ l)
      (roots-typed_in_parts nodes names place next (number_of_physical ltype + physical) more dims around (AreFrom-parts nodes names place number physical name ltype more from))
      ∙ sym (map-append Some (root_types dims ltype) (root_types_in_parts dims more))

-- ---- places in lists

-- where two lists have one image, what is found in one is found in the other
record IsFoundToo {A C : Type 0} (f : A → C) (l : List A) (at : ℕ) (image : C) : Type 0 where
  one : A
  found : slice_get l at ≡ Some one
  same : f one ≡ image

found_too : {A B C : Type 0} (f : A → C) (g : B → C) (l : List A) (m : List B) (at : ℕ) (x : B) → map f l ≡ map g m → slice_get m at ≡ Some x → IsFoundToo f l at (g x)
found_too f g [] [] at x are found = cc
found_too f g [] (y ∷ m) at x are found = cc
found_too f g (a ∷ l) [] at x are found = cc
found_too f g (a ∷ l) (y ∷ m) zero x are found =
    let heads : f a ≡ g y = cc in let same : y ≡ x = cc in record { one = a; found = refl; same = heads ∙ ap g same }
found_too f g (a ∷ l) (y ∷ m) (suc at) x are found =
    let rest = found_too f g l m at x (cc) found in record { one = rest.one; found = rest.found; same = rest.same }

typed_node : (o : Option StreamNode) (type : NodeType) → typed o ≡ Some type → (node : StreamNode) × ((o ≡ Some node) × (type_of_node node ≡ type))
typed_node None type is = cc
typed_node (Some node) type is = (node, (refl, cc))

-- ---- the way to a node

pub led-element : (element : Ltype) (way : List Step) (dims : ℕ) (series : List Tree) → (led element way dims series).element ≡ element
led-element element [] dims series = refl
led-element element (steps.Part number ∷ more) dims series = led-element element more dims _
led-element element (steps.Sync own ∷ more) dims series = led-element element more (deep dims own) series
led-element element (steps.Flatten own ∷ more) dims series = led-element element more own _

-- the outermost node of a port, before the nodes inside it
abbrev pub outermost_node : Ltype → Ltype → Settings → StreamNode
outermost_node element user settings = node_at [] outermost_place 0 0 element user settings

abbrev pub nodes_inside : Ltype → Ltype → Settings → List StreamNode
nodes_inside element user settings = nodes_in [] (place_inside outermost_place 0 settings) 1 ((if is_physical element user settings then 1 else 0) + 0) element

-- the types of a port's nodes are those that their series have
pub types-of_nodes : (split : PlainSplit) → IsPortSplit split → (roots : List (List Tree)) → map type_of_node split.nodes ≡ map type_of_series (series_of_nodes split.nodes roots)
types-of_nodes split is roots =
    subst (λ (s : PlainSplit). map type_of_node s.nodes ≡ map type_of_series (series_of_nodes s.nodes roots)) (sym (is.is ∙ ap split_of is.port.is))
    (of_port is.port.element is.port.user is.port.settings)
  where
    of_port : (element user : Ltype) (settings : Settings)
        → map type_of_node (split_of (stream element user settings)).nodes ≡ map type_of_series (series_of_nodes (split_of (stream element user settings)).nodes roots)
    of_port element user settings =
        let first = outermost_node element user settings in
        ap (λ (l : List NodeType). type_of_node first ∷ l)
        (types-in [] (place_inside outermost_place 0 settings) 1 ((if is_physical element user settings then 1 else 0) + 0) element first.params.dims (first_series roots) (drop 1 roots) refl)

-- the facts of the first node of a port
pub record StartsPort (split : PlainSplit) (first : StreamNode) (more : List StreamNode) : Type 0 where
  pub roots : map (type_at split.nodes) split.roots ≡ map Some (root_types 0 (as_root first.element first.params.dims))
  pub streams : length more ≡ number_of_streams first.element
  pub few : suc (number_of_streams first.element) ≤ 65536

starts-split : (element user : Ltype) (settings : Settings) → number_of_nodes (stream element user settings) ≤ 65536
    → StartsPort (split_of (stream element user settings)) (outermost_node element user settings) (nodes_inside element user settings)
starts-split element user settings few =
    let first = outermost_node element user settings in
    let inner = nodes_inside element user settings in
    let place = place_inside outermost_place 0 settings in
    let physical = (if is_physical element user settings then 1 else 0) + 0 in
    let from = AreFrom-node (first ∷ inner) 0 first inner (AreFrom-all (first ∷ inner)) in
    let all = streams-few (stream element user settings) in
    record {
      roots = ap (map (type_at (first ∷ inner))) (roots_in_order element user settings)
          ∙ ap (λ (l : List (Option NodeType)). Some (type_of_node first) ∷ l) (roots-typed (first ∷ inner) [] place 1 physical element first.params.dims refl from.1);
      streams = nodes_in-length [] place 1 physical element;
      few = omega (arith, all, few);
    }

starts-stream : (element user : Ltype) (settings : Settings) (split : PlainSplit) (first : StreamNode) (more : List StreamNode) → number_of_nodes (stream element user settings) ≤ 65536
    → split ≡ split_of (stream element user settings) → split.nodes ≡ first ∷ more → StartsPort split first more
starts-stream element user settings split first more few same nodes =
    let here : outermost_node element user settings ∷ nodes_inside element user settings ≡ first ∷ more = sym (ap (λ (s : PlainSplit). s.nodes) same) ∙ nodes in
    let head : outermost_node element user settings ≡ first = cc in
    let tail : nodes_inside element user settings ≡ more = cc in
    subst (λ (m : List StreamNode). StartsPort split first m) tail
    (subst (λ (f : StreamNode). StartsPort split f (nodes_inside element user settings)) head
    (subst (λ (s : PlainSplit). StartsPort s (outermost_node element user settings) (nodes_inside element user settings)) (sym same) (starts-split element user settings few)))

pub starts-port : (split : PlainSplit) → IsPortSplit split → (first : StreamNode) (more : List StreamNode) → split.nodes ≡ first ∷ more → StartsPort split first more
starts-port split is first more nodes =
    starts-stream is.port.element is.port.user is.port.settings split first more (subst (λ (t : Ltype). number_of_nodes t ≤ 65536) is.port.is is.few) (is.is ∙ ap split_of is.port.is) nodes

-- a way in a port leads to the node of its number
pub leads-to-node : (split : PlainSplit) → IsPortSplit split → (first : StreamNode) (more : List StreamNode) → split.nodes ≡ first ∷ more → (number : ℕ) (found : Option ℕ) (way : List Step)
    → LeadsInPort first.element number found way → (root : ℕ) → found ≡ Some root → LeadsToNode split number root way
leads-to-node split is first more nodes number found way leads root at =
    let begins = starts-port split is first more nodes in
    let from = leads.from first.params.dims in
    let same : leads.root ≡ root = (let both : Some leads.root ≡ Some root = sym leads.is ∙ at in cc) in
    let start = found_too (type_at split.nodes) Some split.roots (root_types 0 (as_root first.element first.params.dims)) leads.root from.root begins.roots from.found in
    let outer = typed_node (slice_get split.nodes start.one) from.root start.same in
    let target = led from.element way from.root.dims (series_at leads.root []) in
    let series : (roots : List (List Tree)) → slice_get (series_of_nodes split.nodes roots) number ≡ Some (led from.element way from.root.dims (series_at leads.root roots)) =
    λ roots. ap (λ (l : List StreamNode). slice_get (series_of_nodes l roots) number) nodes ∙ from.series [] roots in
    let node = found_too type_of_node type_of_series split.nodes (series_of_nodes split.nodes []) number target (types-of_nodes split is []) (series []) in
    let element : node.one.element ≡ from.element = ap (λ (t : NodeType). t.element) node.same ∙ led-element from.element way from.root.dims (series_at leads.root []) in
    let outer_element : outer.0.element ≡ from.root.element = ap (λ (t : NodeType). t.element) outer.1.1 in
    let outer_dims : outer.0.params.dims ≡ from.root.dims = ap (λ (t : NodeType). t.dims) outer.1.1 in
    record {
      start = start.one;
      is_root = subst (λ (n : ℕ). slice_get split.roots n ≡ Some start.one) same start.found;
      outer = outer.0;
      starts = outer.1.0;
      node = node.one;
      found = node.found;
      leads = subst (λ (t : Ltype). Leads t way node.one.element) (sym outer_element) (subst (Leads from.root.element way) (sym element) from.leads);
      series = λ roots.
          series roots
          ∙ ap (λ (t : Ltype). Some (led t way from.root.dims (series_at leads.root roots))) (sym element)
          ∙ ap (λ (d : ℕ). Some (led node.one.element way d (series_at leads.root roots))) (sym outer_dims)
          ∙ ap (λ (n : ℕ). Some (led node.one.element way outer.0.params.dims (series_at n roots))) same;
    }

-- a type has no more roots than Streams
one_or_none : (apart : Bool) → cond apart 1 0 ≤ 1
one_or_none true = omega arith
one_or_none false = omega arith

mutual
  roots-few : (ltype : Ltype) → number_of_roots ltype ≤ number_of_streams ltype
  roots-few types.null = omega arith
  roots-few (types.bits width) = omega arith
  roots-few (types.group parts) = roots_of_parts-few parts
  roots-few (types.union parts) = roots_of_parts-few parts
  roots-few (types.stream element user settings) = omega (arith, roots-few element, one_or_none (is_apart settings.sync))

  roots_of_parts-few : (parts : Parts) → roots_of_parts parts ≤ streams_in_parts parts
  roots_of_parts-few types.no_parts = omega arith
  roots_of_parts-few (types.part name ltype more) = omega (arith, roots-few ltype, roots_of_parts-few more)

-- ---- what the code finds

pub node-found : (split : Split) (number : ℕ) (slice : List Node) (default : Node) (start new : Finding) → IsPortSplit (plain_split split) → number < length split.nodes → slice ≡ split.nodes
    → HasNone start → start.left ≡ number → start.passed ≡ 0
    → (HasNone start → start.passed ≡ 0 → start.left ≤ number_of_streams (plain (get_or slice 0 default).element.now)
    → suc (number_of_roots (plain (get_or slice 0 default).element.now)) ≤ 65536 → LeadsInPort (plain (get_or slice 0 default).element.now) start.left new.root new.way.items)
    → LeadsToNode (plain_split split) number (root_of new.root) new.way.items
node-found split number slice default start new is there same none left passed finds = of_nodes split.nodes refl
  where
    of_nodes : (nodes : List Node) → split.nodes ≡ nodes → LeadsToNode (plain_split split) number (root_of new.root) new.way.items
    of_nodes [] are = (let long = ap length are in absurd (omega (arith, there, long)))
    of_nodes (first ∷ more) are =
        let begins = starts-port (plain_split split) is (node_view first) (map node_view more) (ap (map node_view) are) in
        let here : get_or slice 0 default ≡ first = ap (λ (l : List Node). get_or l 0 default) (same ∙ are) in
        let long = ap length are in
        let streams = sym (length-map more node_view) ∙ begins.streams in
        let roots = roots-few (plain first.element.now) in
        let leads = subst (λ (n : Node). start.left ≤ number_of_streams (plain n.element.now) → suc (number_of_roots (plain n.element.now)) ≤ 65536
        → LeadsInPort (plain n.element.now) start.left new.root new.way.items) here (finds none passed)
        (omega (arith, there, left, long, streams)) (omega (arith, begins.few, roots)) in
        let found = subst (λ (n : ℕ). LeadsInPort (plain first.element.now) n new.root new.way.items) left leads in
        subst (λ (r : ℕ). LeadsToNode (plain_split split) number r new.way.items) (sym (ap root_of found.is))
        (leads-to-node (plain_split split) is (node_view first) (map node_view more) (ap (map node_view) are) number new.root new.way.items found found.root found.is)

-- the node of a physical stream
pub record HasNode (nodes : List StreamNode) (phys : Phys) : Type 0 where
  pub node : StreamNode
  pub found : slice_get nodes phys.node ≡ Some node
  pub params : phys.params ≡ node.params

-- the same of nodes from a number on
record HasNodeFrom (nodes : List StreamNode) (number : ℕ) (phys : Phys) : Type 0 where
  at : ℕ
  is : phys.node ≡ at + number
  node : StreamNode
  found : slice_get nodes at ≡ Some node
  params : phys.params ≡ node.params

node-behind : (node : StreamNode) (more : List StreamNode) (number : ℕ) (phys : Phys) → HasNodeFrom more (suc number) phys → HasNodeFrom (node ∷ more) number phys
node-behind node more number phys rest = record { at = suc rest.at; is = omega (arith, rest.is); node = rest.node; found = rest.found; params = rest.params }

node-first : (node : StreamNode) (more : List StreamNode) (number : ℕ) (phys : Phys) (o : Option ℕ) (k : ℕ) (others : List Phys)
    → ((k : ℕ) → slice_get others k ≡ Some phys → HasNodeFrom more (suc number) phys) → slice_get (stream_in number node o ++ others) k ≡ Some phys
    → HasNodeFrom (node ∷ more) number phys
node-first node more number phys None k others behind found = node-behind node more number phys (behind k found)
node-first node more number phys (Some p) (suc k) others behind found = node-behind node more number phys (behind k found)
node-first node more number phys (Some p) zero others behind found =
    let same : phys_of number node ≡ phys = cc in
    record { at = 0; is = ap (λ (s : Phys). s.node) (sym same) ∙ omega arith; node = node; found = refl; params = ap (λ (s : Phys). s.params) (sym same) }

node-from : (nodes : List StreamNode) (number k : ℕ) (phys : Phys) → slice_get (gathered stream_at number nodes) k ≡ Some phys → HasNodeFrom nodes number phys
node-from [] number k phys found = cc
node-from (node ∷ more) number k phys found =
    node-first node more number phys node.phys k (gathered stream_at (suc number) more) (λ j. node-from more (suc number) j phys) found

pub has-node : (split : PlainSplit) → IsPortSplit split → (k : ℕ) (phys : Phys) → slice_get split.streams k ≡ Some phys → HasNode split.nodes phys
has-node split is k phys found =
    let here = node-from (nodes_of is.ltype) 0 k phys (ap (λ (s : PlainSplit). slice_get s.streams k) (sym is.is) ∙ found) in
    let at : here.at ≡ phys.node = omega (arith, here.is) in
    record {
      node = here.node;
      found = ap (λ (s : PlainSplit). slice_get s.nodes phys.node) is.is ∙ subst (λ (n : ℕ). slice_get (nodes_of is.ltype) n ≡ Some here.node) at here.found;
      params = here.params;
    }

-- ---- the width of elements

mutual
  widths-in : (names : List (List ℕ)) (place : Place) (number physical : ℕ) (ltype : Ltype)
      → map (λ (n : StreamNode). n.params.element) (nodes_in names place number physical ltype) ≡ map (λ (n : StreamNode). width_of n.element) (nodes_in names place number physical ltype)
  widths-in names place number physical types.null = refl
  widths-in names place number physical (types.bits width) = refl
  widths-in names place number physical (types.group parts) = widths-in_parts names place number physical parts
  widths-in names place number physical (types.union parts) = widths-in_parts names place number physical parts
  widths-in names place number physical (types.stream element user settings) =
      ap (λ (l : List ℕ). width_of element ∷ l)
      (widths-in names (place_inside place number settings) (suc number) ((if is_physical element user settings then 1 else 0) + physical) element)

  widths-in_parts : (names : List (List ℕ)) (place : Place) (number physical : ℕ) (parts : Parts)
      → map (λ (n : StreamNode). n.params.element) (nodes_in_parts names place number physical parts)
      ≡ map (λ (n : StreamNode). width_of n.element) (nodes_in_parts names place number physical parts)
  widths-in_parts names place number physical types.no_parts = refl
  widths-in_parts names place number physical (types.part name ltype more) =
      let first = nodes_in (names ++ name ∷ []) place number physical ltype in
      let rest = nodes_in_parts names place (number_of_streams ltype + number) (number_of_physical ltype + physical) more in
      map-append (λ (n : StreamNode). n.params.element) first rest
      ∙ ap (λ (l : List ℕ). l ++ map (λ (n : StreamNode). n.params.element) rest) (widths-in (names ++ name ∷ []) place number physical ltype)
      ∙ ap (λ (l : List ℕ). map (λ (n : StreamNode). width_of n.element) first ++ l)
      (widths-in_parts names place (number_of_streams ltype + number) (number_of_physical ltype + physical) more)
      ∙ sym (map-append (λ (n : StreamNode). width_of n.element) first rest)

pub node-width : (split : PlainSplit) → IsPortSplit split → (number : ℕ) (node : StreamNode) → slice_get split.nodes number ≡ Some node → node.params.element ≡ width_of node.element
node-width split is number node found =
    same_at (nodes_of is.ltype) number (widths-in [] outermost_place 0 0 is.ltype) (ap (λ (s : PlainSplit). slice_get s.nodes number) (sym is.is) ∙ found)
  where
    same_at : (nodes : List StreamNode) (at : ℕ) → map (λ (n : StreamNode). n.params.element) nodes ≡ map (λ (n : StreamNode). width_of n.element) nodes → slice_get nodes at ≡ Some node
        → node.params.element ≡ width_of node.element
    same_at [] at are found = cc
    same_at (first ∷ nodes) zero are found =
        let same : first ≡ node = cc in
        let heads : first.params.element ≡ width_of first.element = cc in
        subst (λ (n : StreamNode). n.params.element ≡ width_of n.element) same heads
    same_at (first ∷ nodes) (suc at) are found = same_at nodes at (cc) found

-- ---- the series of a root

both : (a b : Bool) → (a && b) ≡ true → (a ≡ true) × (b ≡ true)
both true b e = (refl, e)
both false b e = cc

-- the series of a root fits its node
pub record FitsAt (nodes : List StreamNode) (start at : ℕ) (value : List (List Tree)) : Type 0 where
  pub series : List Tree
  pub found : slice_get value at ≡ Some series
  pub fits : fits_series (slice_get nodes start) series ≡ true

pub fits-at : (nodes : List StreamNode) (roots : List ℕ) (value : List (List Tree)) (at start : ℕ) → fit_roots nodes roots value ≡ true → slice_get roots at ≡ Some start → FitsAt nodes start at value
fits-at nodes [] value at start fits found = cc
fits-at nodes (root ∷ roots) [] at start fits found = cc
fits-at nodes (root ∷ roots) (series ∷ more) zero start fits found =
    let same : root ≡ start = cc in
    record {
      series = series;
      found = refl;
      fits = ap (λ (n : ℕ). fits_series (slice_get nodes n) series) (sym same) ∙ (both (fits_series (slice_get nodes root) series) (fit_roots nodes roots more) fits).0;
    }
fits-at nodes (root ∷ roots) (series ∷ more) (suc at) start fits found =
    let rest = fits-at nodes roots more at start (both (fits_series (slice_get nodes root) series) (fit_roots nodes roots more) fits).1 found in
    record { series = rest.series; found = rest.found; fits = rest.fits }

pub series_at-found : (value : List (List Tree)) (at : ℕ) (series : List Tree) → slice_get value at ≡ Some series → series_at at value ≡ series
series_at-found [] at series found = cc
series_at-found (first ∷ value) zero series found = cc
series_at-found (first ∷ value) (suc at) series found = series_at-found value at series found
