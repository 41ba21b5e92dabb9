-- The items of a view, value after value.
use Rattle.std.proofs.Common.{◌≡◌, ◌∙◌, ℕ, suc, ◌+◌, ◌-◌, ◌<◌, ◌≤◌, true, List, [], ◌∷◌, ◌++◌, length, map, drop, get_or, slice_get, Option, Some, sym, ap, subst, append_assoc, arith}
use Rattle.std.specs.Prelude.{option_map}
use Rattle.std.proofs.lemmas.List.{append-nil, drop_all, drop_more}
use Rattle.std.proofs.lemmas.Option.{slice_get-get_or}
use Rattle.physical_stream.specs.Params.{Parameters}
use Rattle.physical_stream.specs.declared.item.Item.{Item}
use Rattle.physical_stream.specs.declared.item.Item.TheVariants as items
use Rattle.logical_types.specs.Tree.{Ltype}
use Rattle.type_split.specs.Streams.{IsPortSplit, PlainSplit, plain_split}
use Rattle.type_split.specs.declared.split.Phys.{Phys}
use Rattle.type_split.specs.declared.split.Split.{Split}
use Rattle.nest_shape.specs.Flat.{HaveDepth, IsSeries, flat, flat_all, flat_form}
use Rattle.nest_shape.specs.Tree as nests
use Rattle.nest_shape.specs.declared.nest.Nest.{Nest}
use Rattle.nest_shape.proofs.PlainLemmas as nest_lemmas
use Rattle.logical_value.specs.Fits.{fits_split}
use Rattle.logical_value.specs.Tree.{Tree, members, plain, plain_port}
use Rattle.logical_value.specs.declared.value.PortValue.{PortValue}
use Rattle.logical_value.specs.declared.value.Value.{Value}
use Rattle.value_views.specs.Series.{NodeSeries, series_at, series_of_nodes}
use Rattle.value_views.specs.Spelled.{flat_of, spelled}
use Rattle.value_views.specs.Views.{node_of, packed, view_of, view_of_stream}
use Rattle.value_views.specs.Way.{LeadsToNode}
use Rattle.value_views.proofs.FitsLemmas.{nodes-have-series}
use Rattle.value_views.proofs.LawLemmas.{streams-have-views}
use Rattle.value_views.proofs.NodeLemmas.{has-node}
use Rattle.value_views.proofs.ViewLemmas.{IsReady}

module _ (element : Ltype) (depth : ℕ) where
  -- a value more was spelled, of those that are left
  pub spelled-more : (values : List Value) (at : ℕ) (one : Value) (begun old new : List Item) → at < length values → one ≡ get_or values at one
      → old ++ spelled element depth (map plain (drop at values)) ≡ begun ++ spelled element depth (map plain values)
      → new ≡ old ++ flat depth (packed element depth (plain one))
      → new ++ spelled element depth (map plain (drop (at + 1) values)) ≡ begun ++ spelled element depth (map plain values)
  spelled-more values at one begun old new within is so_far added =
      let rest = spelled element depth (map plain (drop (at + 1) values)) in
      ap (λ (l : List Item). l ++ rest) added
      ∙ append_assoc old (flat depth (packed element depth (plain one))) rest
      ∙ ap (λ (l : List Value). old ++ spelled element depth (map plain l)) (ap (λ (x : Value). x ∷ drop (at + 1) values) is ∙ sym (drop_more values at one within))
      ∙ so_far

  pub spelled-all : (values : List Value) (at : ℕ) (begun now : List Item) → length values ≤ at
      → now ++ spelled element depth (map plain (drop at values)) ≡ begun ++ spelled element depth (map plain values) → now ≡ begun ++ spelled element depth (map plain values)
  spelled-all values at begun now done so_far =
      sym (append-nil now) ∙ ap (λ (l : List Value). now ++ spelled element depth (map plain l)) (sym (drop_all at values done)) ∙ so_far

  -- the members of a list were spelled, and its Close was added
  pub spelled-list : (value : Tree) (values : List Tree) (old mid new : List Item) → values ≡ members value → mid ≡ old ++ spelled element depth values → new ≡ mid ++ items.Close depth ∷ []
      → new ≡ old ++ flat (suc depth) (packed element (suc depth) value)
  spelled-list value values old mid new are spells pushed =
      let less : suc depth - 1 ≡ depth = omega arith in
      let parts = nests.trees_of (map (packed element depth) (members value)) in
      pushed ∙ ap (λ (l : List Item). l ++ items.Close depth ∷ []) (spells ∙ ap (λ (l : List Tree). old ++ spelled element depth l) are)
      ∙ append_assoc old (flat_all depth parts) (items.Close depth ∷ [])
      ∙ ap (λ (d : ℕ). old ++ (flat_all d parts ++ items.Close d ∷ [])) (sym less)

-- ---- the node of a stream

-- the items of a root are those of its view
pub spelled-node : (split : Split) (value : PortValue) (number root : ℕ) (element : Ltype) (depth : ℕ) (series : List Tree) (start all : List Item)
    → (leads : LeadsToNode (plain_split split) number root [])
    → IsReady element depth series leads.node.element leads.outer.element leads.outer.params.dims (series_at root (plain_port value)) → start ≡ []
    → all ≡ start ++ spelled element depth series
    → option_map flat_of (slice_get (series_of_nodes (plain_split split).nodes (plain_port value)) number) ≡ Some all
spelled-node split value number root element depth series start all leads is_ready none spells =
    ap (option_map flat_of) (leads.series (plain_port value))
    ∙ ap (λ (t : Ltype). Some (spelled t leads.outer.params.dims (series_at root (plain_port value)))) (sym is_ready.element_is)
    ∙ ap (λ (d : ℕ). Some (spelled element d (series_at root (plain_port value)))) (sym is_ready.depth_is)
    ∙ ap (λ (l : List Tree). Some (spelled element depth l)) (sym is_ready.series_is)
    ∙ ap (λ (l : List Item). Some (l ++ spelled element depth series)) (sym none)
    ∙ ap (λ (l : List Item). Some l) (sym spells)

module _ (split : PlainSplit) (is : IsPortSplit split) (roots : List (List Tree)) (fits : fits_split split roots ≡ true) (stream : ℕ) (phys : Phys) (found : slice_get split.streams stream ≡ Some phys) where
  -- the node of a stream, with the dimensions of the stream
  record IsNodeOf (view : List nests.Tree) : Type 0 where
    at : NodeSeries
    there : slice_get (series_of_nodes split.nodes roots) phys.node ≡ Some at
    dims : at.dims ≡ phys.params.dims
    viewed : view_of at ≡ view

  node-is : (view : List nests.Tree) → view_of_stream split roots stream ≡ Some view → IsNodeOf view
  node-is view viewed =
      let has = has-node split is stream phys found in
      let series = nodes-have-series split is roots fits phys.node has.node has.found in
      let one = ap (λ (o : Option Phys). option_map view_of (node_of (series_of_nodes split.nodes roots) o)) found ∙ ap (option_map view_of) series.found in
      let same = sym one ∙ viewed in
      record {
        at = series.at;
        there = series.found;
        dims = series.dims ∙ ap (λ (p : Parameters). p.dims) (sym has.params);
        viewed = cc;
      }

  -- the same stream, where it stands at the number too
  pub same-stream : (one : Phys) → slice_get split.streams stream ≡ Some one → one ≡ phys
  same-stream one there = let both = sym there ∙ found in cc

  pub node-items : (all : List Item) → option_map flat_of (slice_get (series_of_nodes split.nodes roots) phys.node) ≡ Some all
      → (view : List nests.Tree) → view_of_stream split roots stream ≡ Some view → all ≡ flat_all phys.params.dims (nests.trees_of view)
  node-items all spells view viewed =
      let node = node-is view viewed in
      let same = sym (ap (option_map flat_of) node.there) ∙ spells in
      let items_are : flat_of node.at ≡ all = cc in
      sym items_are ∙ ap (λ (d : ℕ). flat_all d (nests.trees_of (view_of node.at))) node.dims ∙ ap (λ (l : List nests.Tree). flat_all phys.params.dims (nests.trees_of l)) node.viewed

  pub view-series : (series : List Nest) → view_of_stream split roots stream ≡ Some (map nests.plain series) → IsSeries phys.params.dims series
  view-series series viewed =
      let has = streams-have-views split is roots fits stream phys found in
      let one = sym has.is ∙ viewed in
      let same : has.view ≡ map nests.plain series = cc in
      subst (HaveDepth phys.params.dims) (ap nests.trees_of same ∙ nest_lemmas.trees_of-map series) has.depth

  pub view-items : (series : List Nest) (all : List Item) → view_of_stream split roots stream ≡ Some (map nests.plain series) → all ≡ flat_form phys.params.dims series
      → (view : List nests.Tree) → view_of_stream split roots stream ≡ Some view → all ≡ flat_all phys.params.dims (nests.trees_of view)
  view-items series all viewed flat_is view other =
      let one = sym viewed ∙ other in
      let same : map nests.plain series ≡ view = cc in
      flat_is ∙ ap (flat_all phys.params.dims) (sym (nest_lemmas.trees_of-map series) ∙ ap nests.trees_of same)

-- the stream that stands at a number
pub stream-there : (streams slice : List Phys) (number : ℕ) (stream : Phys) → number < length streams → slice ≡ streams → stream ≡ get_or slice number stream → slice_get streams number ≡ Some stream
stream-there streams slice number stream within same is =
    slice_get-get_or streams number stream within ∙ ap Some (ap (λ (l : List Phys). get_or l number stream) (sym same) ∙ sym is)

pub series-so : (dims other : ℕ) (slice series : List Nest) → dims ≡ other → slice ≡ series → IsSeries other series → IsSeries dims slice
series-so dims other slice series same is fits = subst (λ (l : List Nest). IsSeries dims l) (sym is) (subst (λ (d : ℕ). IsSeries d series) (sym same) fits)

pub flat-so : (dims other : ℕ) (slice series : List Nest) (some : List Item) → dims ≡ other → slice ≡ series → some ≡ flat_form dims slice → some ≡ flat_form other series
flat-so dims other slice series some same is flat = flat ∙ ap (flat_form dims) is ∙ ap (λ (d : ℕ). flat_form d series) same
