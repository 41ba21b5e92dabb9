-- Splits of types without their levels: they have the same series and views, so that the same items carry the same values.
use Rattle.std.proofs.Common.{◌≡◌, ◌∙◌, ℕ, suc, ◌+◌, ◌&&◌, ◌↔◌, List, [], ◌∷◌, ◌++◌, map, drop, Option, Some, None}
use Rattle.std.proofs.Common.{option_map, refl, sym, ap, subst, if◌then◌else◌}
use Rattle.std.specs.List.{slice_get}
use Rattle.std.proofs.lemmas.List.{map-append}
use Rattle.std.proofs.lemmas.Option.{slice_get-map}
use Rattle.physical_stream.specs.Levels.{at_level}
use Rattle.physical_stream.specs.declared.item.Item.{Item}
use Rattle.logical_types.specs.Synchronicity.{is_apart}
use Rattle.logical_types.specs.Tree.{Ltype, Parts}
use Rattle.logical_types.specs.Tree as types
use Rattle.type_split.specs.Nodes.{StreamNode, nodes_of}
use Rattle.type_split.specs.Streams.{PlainSplit, gathered, root_at, split_of, stream_at, stream_in, streams_of}
use Rattle.type_split.specs.declared.split.Phys.{Phys}
use Rattle.logical_value.specs.Fits.{fit_roots, fits_element, fits_series, fits_split}
use Rattle.logical_value.specs.Tree.{Tree, trees_of}
use Rattle.value_views.specs.Series.{NodeSeries, dims_inside, first_part, first_series, number_of_roots, other_parts, replaced, roots_behind, roots_of_parts}
use Rattle.value_views.specs.Series.{series_in, series_in_parts, series_inside, series_of_nodes}
use Rattle.value_views.specs.Views.{AgreesAt, Carries, EachPair, Spells, SpellsNode}
use Rattle.carried_values.specs.WithoutLevels.{one_level, parts_without_levels, without_levels}
use Rattle.carried_values.proofs.NestLemmas.{nest-agrees-with, nest-agrees-without, pairs-change}
use Rattle.carried_values.proofs.TypeLemmas.{node_without, port-nodes}
use Rattle.carried_values.proofs.WordLemmas.{fits-stay, nests-same}

-- ---- the split

-- a physical stream, but for its level
abbrev pub phys_without : Phys → Phys
phys_without phys = record { path = phys.path; params = at_level one_level phys.params; reversed = phys.reversed; root = phys.root; node = phys.node }

abbrev pub split_without : PlainSplit → PlainSplit
split_without split = record { nodes = map node_without split.nodes; streams = map phys_without split.streams; roots = split.roots }

phys-stay : (number : ℕ) (nodes : List StreamNode) → gathered stream_at number (map node_without nodes) ≡ map phys_without (gathered stream_at number nodes)
phys-stay number [] = refl
phys-stay number (node ∷ more) = ap (λ (l : List Phys). stream_in number (node_without node) node.phys ++ l) (phys-stay (suc number) more) ∙ by node.phys
  where
    by : (phys : Option ℕ) → stream_in number (node_without node) phys ++ map phys_without (gathered stream_at (suc number) more) ≡ map phys_without
        (stream_in number node phys ++ gathered stream_at (suc number) more)
    by None = refl
    by (Some n) = refl

roots-stay : (number : ℕ) (nodes : List StreamNode) → gathered root_at number (map node_without nodes) ≡ gathered root_at number nodes
roots-stay number [] = refl
roots-stay number (node ∷ more) = ap (λ (l : List ℕ). root_at number node ++ l) (roots-stay (suc number) more)

made : (nodes : List StreamNode) (streams : List Phys) (roots : List ℕ) → PlainSplit
made nodes streams roots = record { nodes = nodes; streams = streams; roots = roots }

pub split-stays : (ltype : Ltype) → split_of (without_levels ltype) ≡ split_without (split_of ltype)
unfolding made
split-stays ltype =
    ap (λ (nodes : List StreamNode). made nodes (gathered stream_at 0 nodes) (gathered root_at 0 nodes)) (port-nodes ltype)
    ∙ ap (λ (streams : List Phys). made (map node_without (nodes_of ltype)) streams (gathered root_at 0 (map node_without (nodes_of ltype))))
    (phys-stay 0 (nodes_of ltype))
    ∙ ap (made (map node_without (nodes_of ltype)) (map phys_without (streams_of ltype))) (roots-stay 0 (nodes_of ltype))

-- ---- values that fit

series-fit : (node : Option StreamNode) (series : List Tree) → fits_series (option_map node_without node) series ≡ fits_series node series
series-fit None series = refl
series-fit (Some node) series = nests-same (fits_element (without_levels node.element)) (fits_element node.element) (fits-stay node.element) node.params.dims
    (trees_of series)

roots-fit : (nodes : List StreamNode) (roots : List ℕ) (value : List (List Tree)) → fit_roots (map node_without nodes) roots value ≡ fit_roots nodes roots value
roots-fit nodes [] [] = refl
roots-fit nodes [] (series ∷ more) = refl
roots-fit nodes (root ∷ roots) [] = refl
roots-fit nodes (root ∷ roots) (series ∷ more) =
    ap (λ b. b && fit_roots (map node_without nodes) roots more) (ap (λ (o : Option StreamNode). fits_series o series) (slice_get-map node_without nodes root)
    ∙ series-fit (slice_get nodes root) series)
    ∙ ap (λ b. fits_series (slice_get nodes root) series && b) (roots-fit nodes roots more)

pub values-fit : (split : PlainSplit) (value : List (List Tree)) → fits_split (split_without split) value ≡ fits_split split value
values-fit split value = roots-fit split.nodes split.roots value

-- ---- series

-- a node with its series, but for the levels in the type of its elements
abbrev pub series_without : NodeSeries → NodeSeries
series_without node = record { element = without_levels node.element; dims = node.dims; series = node.series }

mutual
  roots-are : (ltype : Ltype) → number_of_roots (without_levels ltype) ≡ number_of_roots ltype
  roots-are types.null = refl
  roots-are (types.bits width) = refl
  roots-are (types.group parts) = all-roots-are parts
  roots-are (types.union parts) = all-roots-are parts
  roots-are (types.stream element user settings) = ap (λ n. (if is_apart settings.sync then 1 else 0) + n) (roots-are element)

  all-roots-are : (parts : Parts) → roots_of_parts (parts_without_levels parts) ≡ roots_of_parts parts
  all-roots-are types.no_parts = refl
  all-roots-are (types.part name ltype more) = ap (λ n. n + roots_of_parts (parts_without_levels more)) (roots-are ltype)
      ∙ ap (λ n. number_of_roots ltype + n) (all-roots-are more)

mutual
  series-stay : (dims : ℕ) (series : List Tree) (roots : List (List Tree)) (ltype : Ltype)
      → series_in dims series roots (without_levels ltype) ≡ map series_without (series_in dims series roots ltype)
  series-stay dims series roots types.null = refl
  series-stay dims series roots (types.bits width) = refl
  series-stay dims series roots (types.group parts) = all-series-stay dims series roots parts
  series-stay dims series roots (types.union parts) = all-series-stay dims series roots parts
  series-stay dims series roots (types.stream element user settings) =
      ap (λ (l : List NodeSeries).
      record { element = without_levels element; dims = dims_inside settings.sync dims settings.dims; series = series_inside settings.sync dims series roots }
      ∷ l)
      (series-stay (dims_inside settings.sync dims settings.dims) (series_inside settings.sync dims series roots) (roots_behind settings.sync roots) element)

  all-series-stay : (dims : ℕ) (series : List Tree) (roots : List (List Tree)) (parts : Parts)
      → series_in_parts dims series roots (parts_without_levels parts) ≡ map series_without (series_in_parts dims series roots parts)
  all-series-stay dims series roots types.no_parts = refl
  all-series-stay dims series roots (types.part name ltype more) =
      ap (λ (l : List NodeSeries). l ++ series_in_parts dims (replaced other_parts dims series) (drop (number_of_roots (without_levels ltype)) roots)
      (parts_without_levels more))
      (series-stay dims (replaced first_part dims series) roots ltype)
      ∙ ap (λ (l : List NodeSeries). map series_without (series_in dims (replaced first_part dims series) roots ltype) ++ l)
      (ap (λ n. series_in_parts dims (replaced other_parts dims series) (drop n roots) (parts_without_levels more)) (roots-are ltype)
      ∙ all-series-stay dims (replaced other_parts dims series) (drop (number_of_roots ltype) roots) more)
      ∙ sym (map-append series_without (series_in dims (replaced first_part dims series) roots ltype)
      (series_in_parts dims (replaced other_parts dims series) (drop (number_of_roots ltype) roots) more))

node-series : (nodes : List StreamNode) (roots : List (List Tree))
    → series_of_nodes (map node_without nodes) roots ≡ map series_without (series_of_nodes nodes roots)
node-series [] roots = refl
node-series (outermost ∷ others) roots =
    ap (λ (l : List NodeSeries). record { element = without_levels outermost.element; dims = outermost.params.dims; series = first_series roots } ∷ l)
    (series-stay outermost.params.dims (first_series roots) (drop 1 roots) outermost.element)

-- ---- items that carry a value

spells-with : (node : NodeSeries) (items : List Item) → Spells (series_without node) items → Spells node items
spells-with node items spells = record {
  words = spells.words;
  agree = pairs-change (AgreesAt (without_levels node.element) node.dims) (AgreesAt node.element node.dims) (nest-agrees-with node.element node.dims)
      spells.words node.series spells.agree;
  flat_is = spells.flat_is;
}

spells-without : (node : NodeSeries) (items : List Item) → Spells node items → Spells (series_without node) items
spells-without node items spells = record {
  words = spells.words;
  agree = pairs-change (AgreesAt node.element node.dims) (AgreesAt (without_levels node.element) node.dims) (nest-agrees-without node.element node.dims)
      spells.words node.series spells.agree;
  flat_is = spells.flat_is;
}

inside-map : (found : Option NodeSeries) (node : NodeSeries) → option_map series_without found ≡ Some node
    → (one : NodeSeries) × ((found ≡ Some one) × (node ≡ series_without one))
inside-map None node is = absurd cc
inside-map (Some one) node is = (one, (refl, cc))

node-spells-with : (nodes : List NodeSeries) (phys : Phys) (items : List Item) → SpellsNode (map series_without nodes) (phys_without phys) items
    → SpellsNode nodes phys items
node-spells-with nodes phys items spells =
    let inner = inside-map (slice_get nodes phys.node) spells.node (sym (slice_get-map series_without nodes phys.node) ∙ spells.found) in
    record { node = inner.0; found = inner.1.0; spelled = spells-with inner.0 items (subst (λ (n : NodeSeries). Spells n items) inner.1.1 spells.spelled) }

node-spells-without : (nodes : List NodeSeries) (phys : Phys) (items : List Item) → SpellsNode nodes phys items
    → SpellsNode (map series_without nodes) (phys_without phys) items
node-spells-without nodes phys items spells = record {
  node = series_without spells.node;
  found = slice_get-map series_without nodes phys.node ∙ ap (option_map series_without) spells.found;
  spelled = spells-without spells.node items spells.spelled;
}

all-with : (nodes : List NodeSeries) (streams : List Phys) (done : List (List Item))
    → EachPair (SpellsNode (map series_without nodes)) (map phys_without streams) done → EachPair (SpellsNode nodes) streams done
all-with nodes [] [] pairs = tt
all-with nodes [] (items ∷ done) pairs = absurd pairs
all-with nodes (phys ∷ streams) [] pairs = absurd pairs
all-with nodes (phys ∷ streams) (items ∷ done) pairs = (node-spells-with nodes phys items pairs.0, all-with nodes streams done pairs.1)

all-without : (nodes : List NodeSeries) (streams : List Phys) (done : List (List Item)) → EachPair (SpellsNode nodes) streams done
    → EachPair (SpellsNode (map series_without nodes)) (map phys_without streams) done
all-without nodes [] [] pairs = tt
all-without nodes [] (items ∷ done) pairs = absurd pairs
all-without nodes (phys ∷ streams) [] pairs = absurd pairs
all-without nodes (phys ∷ streams) (items ∷ done) pairs = (node-spells-without nodes phys items pairs.0, all-without nodes streams done pairs.1)

pub carries-with : (split : PlainSplit) (roots : List (List Tree)) (done : List (List Item)) → Carries (split_without split) roots done
    → Carries split roots done
carries-with split roots done carries = record {
  fits = sym (values-fit split roots) ∙ carries.fits;
  spelled = all-with (series_of_nodes split.nodes roots) split.streams done
      (subst (λ (nodes : List NodeSeries). EachPair (SpellsNode nodes) (map phys_without split.streams) done) (node-series split.nodes roots) carries.spelled);
}

pub carries-without : (split : PlainSplit) (roots : List (List Tree)) (done : List (List Item)) → Carries split roots done
    → Carries (split_without split) roots done
carries-without split roots done carries = record {
  fits = values-fit split roots ∙ carries.fits;
  spelled = subst (λ (nodes : List NodeSeries). EachPair (SpellsNode nodes) (map phys_without split.streams) done) (sym (node-series split.nodes roots))
      (all-without (series_of_nodes split.nodes roots) split.streams done carries.spelled);
}

-- the same items carry the same values by a type and by the type without its levels
pub carries-stay : (ltype : Ltype) (roots : List (List Tree)) (done : List (List Item))
    → Carries (split_of (without_levels ltype)) roots done ↔ Carries (split_of ltype) roots done
carries-stay ltype roots done = (
  λ carries. carries-with (split_of ltype) roots done (subst (λ (split : PlainSplit). Carries split roots done) (split-stays ltype) carries),
  λ carries. subst (λ (split : PlainSplit). Carries split roots done) (sym (split-stays ltype)) (carries-without (split_of ltype) roots done carries),
)
