-- The view of a node, as it is gathered.
use Rattle.std.proofs.Common.{◌≡◌, ◌∙◌, ℕ, zero, suc, ◌<◌, true, List, [], ◌∷◌, ◌++◌, length, map, get_or, slice_get, Option, Some, All, sym, ap, subst, arith}
use Rattle.std.specs.Prelude.{option_map}
use Rattle.std.proofs.lemmas.List.{length-map}
use Rattle.std.proofs.lemmas.List.Elements.{All-get_or}
use Rattle.std.proofs.lemmas.Option.{get_or_from_slice_get, slice_get-get_or, slice_get_within}
use Rattle.logical_types.specs.Faults.{IsPlain}
use Rattle.logical_types.specs.Tree.{Ltype}
use Rattle.logical_types.specs.Tree as types
use Rattle.type_split.specs.Elements.{HasElements}
use Rattle.type_split.specs.Nodes.{StreamNode}
use Rattle.type_split.specs.Streams.{IsPortSplit, node_view, plain_split}
use Rattle.type_split.specs.declared.split.Node.{Node}
use Rattle.type_split.specs.declared.split.Phys.{Phys}
use Rattle.type_split.specs.declared.split.Split.{Split}
use Rattle.type_split.proofs.ElementLemmas.{nodes_have_elements}
use Rattle.nest_shape.specs.Tree as nests
use Rattle.nest_shape.specs.declared.nest.Nest.{Nest}
use Rattle.logical_value.specs.Fits.{all_pass, is_nest, fits_element, fits_series, fits_split}
use Rattle.logical_value.specs.Tree.{Tree, trees_of, plain, plain_port}
use Rattle.logical_value.specs.declared.value.PortValue.{PortValue}
use Rattle.logical_value.specs.declared.value.Value.{Value}
use Rattle.value_views.specs.Series.{series_of_nodes, series_at}
use Rattle.value_views.specs.Views.{view_of, view_of_stream, node_of}
use Rattle.value_views.specs.Way.{CanGatherAll, Leads, LeadsToNode, gathered}
use Rattle.value_views.specs.declared.way.Step.{Step}
use Rattle.value_views.proofs.NodeLemmas.{fits-at, has-node, series_at-found}

-- ---- what stands at a place of a list that is seen as another

pub viewed : {A B : Type 0} (f : A → B) (l : List A) (at : ℕ) (x : B) (default : A) → slice_get (map f l) at ≡ Some x → f (get_or l at default) ≡ x
viewed f [] at x default found = cc
viewed f (a ∷ l) zero x default found = cc
viewed f (a ∷ l) (suc at) x default found = viewed f l at x default found

pub within-map : {A B : Type 0} (f : A → B) (l : List A) (at : ℕ) (x : B) → slice_get (map f l) at ≡ Some x → at < length l
within-map f l at x found = let less = slice_get_within (map f l) at x found in let long = length-map l f in omega (arith, less, long)

pub all-at : {A : Type 0} (P : A → Type 0) (l : List A) (at : ℕ) (x : A) → All P l → slice_get l at ≡ Some x → P x
all-at P l at x all found = subst P (get_or_from_slice_get l at x x found) (All-get_or P l at x (slice_get_within l at x found) all)

-- ---- gathering

-- the values that are gathered are those that the way leads from
pub record IsReady (element : Ltype) (depth : ℕ) (series : List Tree) (node outer : Ltype) (dims : ℕ) (given : List Tree) : Type 0 where
  pub element_is : element ≡ node
  pub depth_is : depth ≡ dims
  pub series_is : series ≡ given

pub ready : (split : Split) (value : PortValue) (number root : ℕ) (way : List Step) → fits_split (plain_split split) (plain_port value) ≡ true
    → (leads : LeadsToNode (plain_split split) number root way) → (roots : List ℕ) → roots ≡ split.roots → (some_root : ℕ) → (nodes : List Node) → nodes ≡ split.nodes → (some_outer : Node)
    → (depth : ℕ) → depth ≡ (get_or nodes (get_or roots root some_root) some_outer).params.dims → (others : List Node) → others ≡ split.nodes → (some_node : Node)
    → (values : List (List Value)) → values ≡ value.roots → (some_series : List Value) → (series : List Value) → series ≡ get_or values root some_series
    → IsReady (types.plain (get_or others number some_node).element.now) depth (map plain series) leads.node.element leads.outer.element leads.outer.params.dims
    (series_at root (plain_port value))
ready split value number root way fits leads roots are_roots some_root nodes are_nodes some_outer depth deep others are_others some_node values are_values some_series series is =
    let at = fits-at (plain_split split).nodes split.roots (plain_port value) root leads.start fits leads.is_root in
    let start : get_or roots root some_root ≡ leads.start = ap (λ (l : List ℕ). get_or l root some_root) are_roots ∙ get_or_from_slice_get split.roots root leads.start some_root leads.is_root in
    record {
      element_is = ap (λ (l : List Node). types.plain (get_or l number some_node).element.now) are_others
          ∙ ap (λ (n : StreamNode). n.element) (viewed node_view split.nodes number leads.node some_node leads.found);
      depth_is = deep
          ∙ ap (λ (n : ℕ). (get_or nodes n some_outer).params.dims) start
          ∙ ap (λ (l : List Node). (get_or l leads.start some_outer).params.dims) are_nodes
          ∙ ap (λ (n : StreamNode). n.params.dims) (viewed node_view split.nodes leads.start leads.outer some_outer leads.starts);
      series_is = ap (map plain) is
          ∙ ap (λ (l : List (List Value)). map plain (get_or l root some_series)) are_values
          ∙ viewed (map plain) value.roots root at.series some_series at.found
          ∙ sym (series_at-found (plain_port value) root at.series at.found);
    }

pub can-gather : (split : Split) (value : PortValue) (number root : ℕ) (way : List Step) (element : Ltype) (depth : ℕ) (series : List Tree) → IsPortSplit (plain_split split)
    → fits_split (plain_split split) (plain_port value) ≡ true → (leads : LeadsToNode (plain_split split) number root way)
    → IsReady element depth series leads.node.element leads.outer.element leads.outer.params.dims (series_at root (plain_port value))
    → CanGatherAll element way depth series
can-gather split value number root way element depth series is fits leads is_ready =
    let at = fits-at (plain_split split).nodes split.roots (plain_port value) root leads.start fits leads.is_root in
    let plain_element = (all-at HasElements (plain_split split).nodes number leads.node (nodes_have_elements (plain_split split) is) leads.found).plain in
    let same = is_ready.series_is ∙ series_at-found (plain_port value) root at.series at.found in
    record {
      plain = subst IsPlain (sym is_ready.element_is) plain_element;
      from = leads.outer.element;
      leads = subst (Leads leads.outer.element way) (sym is_ready.element_is) leads.leads;
      fits = ap (λ (d : ℕ). all_pass (is_nest (fits_element leads.outer.element) d) (trees_of series)) is_ready.depth_is
          ∙ ap (λ (l : List Tree). all_pass (is_nest (fits_element leads.outer.element) leads.outer.params.dims) (trees_of l)) same
          ∙ ap (λ (o : Option StreamNode). fits_series o at.series) (sym leads.starts)
          ∙ at.fits;
    }

pub gathered-view : (split : Split) (value : PortValue) (number root : ℕ) (way : List Step) (element : Ltype) (depth : ℕ) (series : List Tree) (start view : List Nest)
    → (leads : LeadsToNode (plain_split split) number root way)
    → IsReady element depth series leads.node.element leads.outer.element leads.outer.params.dims (series_at root (plain_port value)) → start ≡ []
    → map nests.plain view ≡ map nests.plain start ++ gathered element way depth series
    → option_map view_of (slice_get (series_of_nodes (plain_split split).nodes (plain_port value)) number) ≡ Some (map nests.plain view)
gathered-view split value number root way element depth series start view leads is_ready none gathers =
    ap (option_map view_of) (leads.series (plain_port value))
    ∙ ap (λ (t : Ltype). Some (gathered t way leads.outer.params.dims (series_at root (plain_port value)))) (sym is_ready.element_is)
    ∙ ap (λ (d : ℕ). Some (gathered element way d (series_at root (plain_port value)))) (sym is_ready.depth_is)
    ∙ ap (λ (l : List Tree). Some (gathered element way depth l)) (sym is_ready.series_is)
    ∙ ap (λ (l : List Nest). Some (map nests.plain l ++ gathered element way depth series)) (sym none)
    ∙ ap (λ (l : List nests.Tree). Some l) (sym gathers)

pub root-within : (split : Split) (value : PortValue) (number root : ℕ) (way : List Step) → fits_split (plain_split split) (plain_port value) ≡ true
    → LeadsToNode (plain_split split) number root way → root < length value.roots
root-within split value number root way fits leads =
    let at = fits-at (plain_split split).nodes split.roots (plain_port value) root leads.start fits leads.is_root in within-map (map plain) value.roots root at.series at.found

-- ---- the stream

pub stream-within : (split : Split) (stream : ℕ) (streams : List Phys) (default : Phys) → IsPortSplit (plain_split split) → stream < length split.streams → streams ≡ split.streams
    → (get_or streams stream default).node < length split.nodes
stream-within split stream streams default is less same =
    let found = slice_get-get_or split.streams stream default less in
    let has = has-node (plain_split split) is stream (get_or split.streams stream default) found in
    subst (λ (l : List Phys). (get_or l stream default).node < length split.nodes) (sym same) (within-map node_view split.nodes (get_or split.streams stream default).node has.node has.found)

pub view-of_stream : (split : Split) (value : PortValue) (stream : ℕ) (streams : List Phys) (default : Phys) (view : Option (List nests.Tree)) → stream < length split.streams → streams ≡ split.streams
    → option_map view_of (slice_get (series_of_nodes (plain_split split).nodes (plain_port value)) (get_or streams stream default).node) ≡ view
    → view_of_stream (plain_split split) (plain_port value) stream ≡ view
view-of_stream split value stream streams default view less same is =
    ap (λ (o : Option Phys). option_map view_of (node_of (series_of_nodes (plain_split split).nodes (plain_port value)) o)) (slice_get-get_or split.streams stream default less)
    ∙ ap (λ (l : List Phys). option_map view_of (slice_get (series_of_nodes (plain_split split).nodes (plain_port value)) (get_or l stream default).node)) (sym same)
    ∙ is
