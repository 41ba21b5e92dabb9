-- The views of a value that fits: their depth, the width of their words, their items, and that these carry the value.
use Rattle.std.proofs.Common.{◌≡◌, ◌∙◌, ℕ, zero, suc, ◌-◌, ◌<◌, ◌≤◌, Bool, true, false, ◌&&◌, List, [], ◌∷◌, map, slice_get, Option, Some, All, refl, sym, ap, subst, arith}
use Rattle.std.specs.Prelude.{option_map}
use Rattle.std.proofs.lemmas.List.Elements.{All-append, All-cons, All-nil}
use Rattle.physical_stream.specs.Params.{Parameters}
use Rattle.physical_stream.specs.declared.item.Item.TheVariants as items
use Rattle.logical_types.specs.Tree.{Ltype}
use Rattle.logical_types.specs.Width.{width_of}
use Rattle.type_split.specs.Nodes.{StreamNode}
use Rattle.type_split.specs.declared.split.Phys.{Phys}
use Rattle.nest_shape.specs.Flat.{HasDepth, HaveDepth, flat, flat_all}
use Rattle.nest_shape.specs.Tree.{leaf, no_trees, tree, list_of, trees_of}
use Rattle.nest_shape.specs.Tree as nests
use Rattle.nest_shape.proofs.PlainLemmas.{list_of-trees_of}
use Rattle.logical_value.specs.Element.{set_apart}
use Rattle.logical_value.specs.Fits.{all_pass, is_nest, fits_element}
use Rattle.logical_value.specs.Packed.{pack_of}
use Rattle.logical_value.specs.Tree.{Tree, null, word, group, union, list, apart, members}
use Rattle.logical_value.specs.Tree as values
use Rattle.logical_value.proofs.AgreeingLemmas.{agrees_with_one}
use Rattle.logical_value.proofs.FitLemmas.{fits_are_elements}
use Rattle.logical_value.proofs.LawLemmas.{packed_is_unpacked}
use Rattle.logical_value.proofs.PackingLemmas.{length-pack_of}
use Rattle.logical_value.proofs.PlainLemmas.{trees_of-list_of}
use Rattle.value_views.specs.Laws.{HasWidth, HaveWidth, FitsStream, StreamsHaveViews, ViewsCarry, items_of}
use Rattle.value_views.specs.Series.{NodeSeries, series_of_nodes}
use Rattle.value_views.specs.Views.{AgreesAt, EachPair, SpellsNode, node_of, packed, view_of}
use Rattle.value_views.proofs.FitsLemmas.{nodes-have-series}
use Rattle.value_views.proofs.NodeLemmas.{HasNode, has-node, node-width}

both : (a b : Bool) → (a && b) ≡ true → (a ≡ true) × (b ≡ true)
both true b e = (refl, e)
both false b e = cc

-- ---- depth and width

one_less : (depth : ℕ) → depth ≡ suc depth - 1
one_less depth = omega arith

have-depth : (f : Tree → nests.Tree) (depth : ℕ) → ((value : Tree) → HasDepth depth (f value)) → (series : List Tree) → HaveDepth depth (trees_of (map f series))
have-depth f depth each [] = tt
have-depth f depth each (value ∷ series) = (each value, have-depth f depth each series)

packed-depth : (element : Ltype) (depth : ℕ) (value : Tree) → HasDepth depth (packed element depth value)
packed-depth element zero value = refl
packed-depth element (suc depth) value = (
  omega arith,
  subst (λ (d : ℕ). HaveDepth d (trees_of (map (packed element depth) (members value)))) (one_less depth) (have-depth (packed element depth) depth (packed-depth element depth) (members value)),
)

-- the members of a nest pass where it does
are_members : (test : Tree → Bool) (depth : ℕ) (parts : values.Trees) → is_nest test (suc depth) (list parts) ≡ true → all_pass (is_nest test depth) (values.trees_of (values.list_of parts)) ≡ true
are_members test depth parts fits = subst (λ (t : values.Trees). all_pass (is_nest test depth) t ≡ true) (sym (trees_of-list_of parts)) fits

have-width : (f : Tree → nests.Tree) (test : Tree → Bool) (width : ℕ) → ((value : Tree) → test value ≡ true → HasWidth width (f value)) → (series : List Tree)
    → all_pass test (values.trees_of series) ≡ true → HaveWidth width (trees_of (map f series))
have-width f test width each [] fits = tt
have-width f test width each (value ∷ series) fits =
    let here = both (test value) (all_pass test (values.trees_of series)) fits in (each value here.0, have-width f test width each series here.1)

packed-width : (element : Ltype) (depth : ℕ) (value : Tree) → is_nest (fits_element element) depth value ≡ true → HasWidth (width_of element) (packed element depth value)
packed-width element zero value fits = length-pack_of element value (fits_are_elements element value fits)
packed-width element (suc depth) (list parts) fits =
    have-width (packed element depth) (is_nest (fits_element element) depth) (width_of element) (packed-width element depth) (values.list_of parts)
    (are_members (fits_element element) depth parts fits)
packed-width element (suc depth) null fits = cc
packed-width element (suc depth) (word bits) fits = cc
packed-width element (suc depth) (group parts) fits = cc
packed-width element (suc depth) (union tag held) fits = cc
packed-width element (suc depth) apart fits = cc

-- ---- items

mutual
  items-fit : (params : Parameters) (depth : ℕ) → depth ≤ params.dims → (nest : nests.Tree) → HasDepth depth nest → HasWidth params.element nest → All (FitsStream params) (flat depth nest)
  items-fit params depth less (leaf bits) deep wide = All-cons (FitsStream params) (items.Elem bits) [] wide (All-nil (FitsStream params))
  items-fit params depth less (nests.list parts) deep wide =
      let lower : depth - 1 ≤ params.dims = omega (arith, less) in
      let closes : depth - 1 < params.dims = omega (arith, less, deep.0) in
      All-append (FitsStream params) (flat_all (depth - 1) parts) (items.Close (depth - 1) ∷ []) (all_items-fit params (depth - 1) lower parts deep.1 wide)
      (All-cons (FitsStream params) (items.Close (depth - 1)) [] closes (All-nil (FitsStream params)))

  all_items-fit : (params : Parameters) (depth : ℕ) → depth ≤ params.dims → (nests : nests.Trees) → HaveDepth depth nests → HaveWidth params.element nests
      → All (FitsStream params) (flat_all depth nests)
  all_items-fit params depth less no_trees deep wide = All-nil (FitsStream params)
  all_items-fit params depth less (tree first more) deep wide =
      All-append (FitsStream params) (flat depth first) (flat_all depth more) (items-fit params depth less first deep.0 wide.0) (all_items-fit params depth less more deep.1 wide.1)

-- ---- the view of a stream

pub streams-have-views : StreamsHaveViews
streams-have-views split is roots fits stream phys found =
    let has = has-node split is stream phys found in
    let series = nodes-have-series split is roots fits phys.node has.node has.found in
    let nodes = series_of_nodes split.nodes roots in
    let view = view_of series.at in
    let dims : series.at.dims ≡ phys.params.dims = series.dims ∙ ap (λ (p : Parameters). p.dims) (sym has.params) in
    let width : width_of series.at.element ≡ phys.params.element =
    ap width_of series.element ∙ sym (node-width split is phys.node has.node has.found) ∙ ap (λ (p : Parameters). p.element) (sym has.params) in
    let fit = fits-series has.node series.at series.element series.dims series.fits in
    let deep = subst (λ (d : ℕ). HaveDepth d (trees_of view)) dims (have-depth (packed series.at.element series.at.dims) series.at.dims (packed-depth series.at.element series.at.dims) series.at.series) in
    let wide = subst (λ (w : ℕ). HaveWidth w (trees_of view)) width (have-width (packed series.at.element series.at.dims) (is_nest (fits_element series.at.element) series.at.dims) (width_of series.at.element)
    (packed-width series.at.element series.at.dims) series.at.series fit) in
    record {
      view = view;
      is = ap (λ (o : Option Phys). option_map view_of (node_of nodes o)) found ∙ ap (option_map view_of) series.found;
      depth = deep;
      width = wide;
      items = all_items-fit phys.params phys.params.dims (omega arith) (trees_of view) deep wide;
    }
  where
    fits-series : (node : StreamNode) (at : NodeSeries) → at.element ≡ node.element → at.dims ≡ node.params.dims
        → all_pass (is_nest (fits_element node.element) node.params.dims) (values.trees_of at.series) ≡ true
        → all_pass (is_nest (fits_element at.element) at.dims) (values.trees_of at.series) ≡ true
    fits-series node at element dims fits =
        ap (λ (t : Ltype). all_pass (is_nest (fits_element t) at.dims) (values.trees_of at.series)) element
        ∙ ap (λ (d : ℕ). all_pass (is_nest (fits_element node.element) d) (values.trees_of at.series)) dims ∙ fits

-- ---- the items of views carry the value

pairs : (R : nests.Tree → Tree → Type 0) (f : Tree → nests.Tree) (test : Tree → Bool) → ((value : Tree) → test value ≡ true → R (f value) value) → (series : List Tree)
    → all_pass test (values.trees_of series) ≡ true → EachPair R (map f series) series
pairs R f test each [] fits = tt
pairs R f test each (value ∷ series) fits =
    let here = both (test value) (all_pass test (values.trees_of series)) fits in (each value here.0, pairs R f test each series here.1)

packed-agrees : (element : Ltype) (depth : ℕ) (value : Tree) → is_nest (fits_element element) depth value ≡ true → AgreesAt element depth (packed element depth value) value
packed-agrees element zero value fits =
    let is = fits_are_elements element value fits in
    (length-pack_of element value is, (agrees_with_one element (pack_of element value) (set_apart element value) value (packed_is_unpacked element value is) is).1 refl)
packed-agrees element (suc depth) (list parts) fits =
    let some = values.list_of parts in
    subst (λ (l : List nests.Tree). EachPair (AgreesAt element depth) l some) (sym (list_of-trees_of (map (packed element depth) some)))
    (pairs (AgreesAt element depth) (packed element depth) (is_nest (fits_element element) depth) (packed-agrees element depth) some (are_members (fits_element element) depth parts fits))
packed-agrees element (suc depth) null fits = cc
packed-agrees element (suc depth) (word bits) fits = cc
packed-agrees element (suc depth) (group parts) fits = cc
packed-agrees element (suc depth) (union tag held) fits = cc
packed-agrees element (suc depth) apart fits = cc

each-pair : {A B : Type 0} (R : A → B → Type 0) (f : A → B) (l : List A) → ((k : ℕ) (x : A) → slice_get l k ≡ Some x → R x (f x)) → EachPair R l (map f l)
each-pair R f [] each = tt
each-pair R f (x ∷ l) each = (each 0 x refl, each-pair R f l (λ k y found. each (suc k) y found))

pub views-carry : ViewsCarry
views-carry split is roots fits = record {
  fits = fits;
  spelled = each-pair (SpellsNode nodes) (λ phys. items_of (node_of nodes (Some phys))) split.streams (λ k phys found. spells phys (has-node split is k phys found));
}
  where
    nodes : List NodeSeries
    nodes = series_of_nodes split.nodes roots

    spells : (phys : Phys) → HasNode split.nodes phys → SpellsNode nodes phys (items_of (slice_get nodes phys.node))
    spells phys has =
        let series = nodes-have-series split is roots fits phys.node has.node has.found in
        let at = series.at in
        let fit = ap (λ (t : Ltype). all_pass (is_nest (fits_element t) at.dims) (values.trees_of at.series)) series.element
        ∙ ap (λ (d : ℕ). all_pass (is_nest (fits_element has.node.element) d) (values.trees_of at.series)) series.dims ∙ series.fits in
        subst (λ (o : Option NodeSeries). SpellsNode nodes phys (items_of o)) (sym series.found)
        (record {
          node = at;
          found = series.found;
          spelled = record { words = view_of at; agree = pairs (AgreesAt at.element at.dims) (packed at.element at.dims) (is_nest (fits_element at.element) at.dims) (packed-agrees at.element at.dims) at.series fit; flat_is = refl };
        })
