-- Splits of types that are one type, throughputs and levels aside: they have the same values and views.
use Rattle.std.proofs.Common.{◌≡◌, ◌∙◌, ℕ, suc, ◌+◌, ◌&&◌, ◌||◌, ◌==◌, not, Bool, true, false, is_some, List, [], ◌∷◌, ◌++◌, map, drop, Option, Some, None, slice_get}
use Rattle.std.proofs.Common.{option_map, refl, sym, ap, if◌then◌else◌}
use Rattle.std.proofs.lemmas.List.{map-append}
use Rattle.std.proofs.lemmas.Option.{slice_get-map}
use Rattle.tydi_base.specs.Level.{LevelNumbers}
use Rattle.logical_types.specs.Faults.{effective_dims, inside}
use Rattle.logical_types.specs.Synchronicity.{is_apart}
use Rattle.logical_types.specs.Tree.{Ltype, Parts, Settings}
use Rattle.logical_types.specs.Tree as types
use Rattle.logical_types.specs.declared.ltype.Sync.{Sync}
use Rattle.type_split.specs.Nodes.{StreamNode, node_at, nodes_in, nodes_in_parts, nodes_of, number_of_physical, number_of_streams, outermost_place, place_inside}
use Rattle.type_split.specs.Nodes as nodes
use Rattle.type_split.specs.Streams.{gathered, root_at, roots_of, split_of, streams_of}
use Rattle.type_split.specs.declared.split.Phys.{Phys}
use Rattle.logical_value.specs.Fits.{all_pass, fit_roots, fits_element, fits_series, fits_split, is_nest}
use Rattle.logical_value.specs.Tree.{Tree, trees_of}
use Rattle.value_views.specs.Series.{NodeSeries, dims_inside, first_part, first_series, number_of_roots, other_parts, replaced, roots_behind, roots_of_parts}
use Rattle.value_views.specs.Series.{series_in, series_in_parts, series_inside, series_of_nodes}
use Rattle.value_views.specs.Views.{node_of, view_of, view_of_stream}
use Rattle.port_reshape.specs.Far.{far_stream}
use Rattle.port_reshape.specs.Rates.{RatesLeaveValues, parts_without_rates, without_rate, without_rates}
use Rattle.port_reshape.proofs.PortLemmas.{node-same}
use Rattle.port_reshape.proofs.RateLemmas.{all-packed, fits-stay, nests-same, streams-stay}

-- ---- nodes

-- the place of a type in a port's type, whose own name is private to its crate
abbrev Taken : {A B : Type 0} → (A → B) → Type 0
Taken {A} {B} function = A

abbrev Place : Type 0
Place = Taken (nodes_in [])

-- the part of a node that values look at: the type of its elements, its dimensionality and its root
record Core : Type 0 where
  pub element : Ltype
  pub dims : ℕ
  pub root : ℕ

abbrev core_of : StreamNode → Core
core_of node = record { element = node.element; dims = node.params.dims; root = node.root }

-- the same, but for the throughputs and levels in the type
abbrev core_without : StreamNode → Core
core_without node = record { element = without_rates node.element; dims = node.params.dims; root = node.root }

-- two places differ only in the throughputs around them
record SamePlace (place other : Place) : Type 0 where
  pub parent : other.parent ≡ place.parent
  pub root : other.root ≡ place.root
  pub dims : other.around.dims ≡ place.around.dims

same-root : (place other : Place) (number : ℕ) (sync : Sync) → SamePlace place other → nodes.root_at other number sync ≡ nodes.root_at place number sync
same-root place other number sync same =
    ap (λ (parent : Option ℕ). if not (is_some parent) || is_apart sync then number else other.root) same.parent
    ∙ ap (λ root. if not (is_some place.parent) || is_apart sync then number else root) same.root

same-dims : (place other : Place) (settings : Settings) → SamePlace place other → (inside other.around (without_rate settings)).dims ≡ (inside place.around settings).dims
same-dims place other settings same = ap (effective_dims settings.dims settings.sync) same.dims

same-inside : (place other : Place) (number : ℕ) (settings : Settings) → SamePlace place other → SamePlace (place_inside place number settings) (place_inside other number (without_rate settings))
same-inside place other number settings same = record { parent = refl; root = same-root place other number settings.sync same; dims = same-dims place other settings same }

same-core : (names : List (List ℕ)) (place other : Place) (number before count : ℕ) (element user : Ltype) (settings : Settings) → SamePlace place other
    → core_of (node_at names other number count (without_rates element) user (without_rate settings)) ≡ core_without (node_at names place number before element user settings)
same-core names place other number before count element user settings same =
    ap (λ dims. record { element = without_rates element; dims = dims; root = nodes.root_at other number settings.sync }) (same-dims place other settings same)
    ∙ ap (λ root. record { element = without_rates element; dims = (inside place.around settings).dims; root = root }) (same-root place other number settings.sync same)

mutual
  cores-stay : (names : List (List ℕ)) (place other : Place) (number before count : ℕ) (ltype : Ltype) → SamePlace place other
      → map core_of (nodes_in names other number count (without_rates ltype)) ≡ map core_without (nodes_in names place number before ltype)
  cores-stay names place other number before count types.null same = refl
  cores-stay names place other number before count (types.bits width) same = refl
  cores-stay names place other number before count (types.group parts) same = all-cores-stay names place other number before count parts same
  cores-stay names place other number before count (types.union parts) same = all-cores-stay names place other number before count parts same
  cores-stay names place other number before count (types.stream element user settings) same =
      ap (λ (core : Core). core ∷ map core_of (nodes_in names (place_inside other number (without_rate settings)) (suc number) ((if nodes.is_physical (without_rates element) user (without_rate settings) then 1 else 0) + count) (without_rates element)))
      (same-core names place other number before count element user settings same)
      ∙ ap (λ (l : List Core). core_without (node_at names place number before element user settings) ∷ l)
      (cores-stay names (place_inside place number settings) (place_inside other number (without_rate settings)) (suc number)
      ((if nodes.is_physical element user settings then 1 else 0) + before) ((if nodes.is_physical (without_rates element) user (without_rate settings) then 1 else 0) + count) element
      (same-inside place other number settings same))

  all-cores-stay : (names : List (List ℕ)) (place other : Place) (number before count : ℕ) (parts : Parts) → SamePlace place other
      → map core_of (nodes_in_parts names other number count (parts_without_rates parts)) ≡ map core_without (nodes_in_parts names place number before parts)
  all-cores-stay names place other number before count types.no_parts same = refl
  all-cores-stay names place other number before count (types.part name ltype more) same =
      map-append core_of (nodes_in (names ++ name ∷ []) other number count (without_rates ltype))
      (nodes_in_parts names other (number_of_streams (without_rates ltype) + number) (number_of_physical (without_rates ltype) + count) (parts_without_rates more))
      ∙ ap (λ (l : List Core). l ++ map core_of (nodes_in_parts names other (number_of_streams (without_rates ltype) + number) (number_of_physical (without_rates ltype) + count) (parts_without_rates more)))
      (cores-stay (names ++ name ∷ []) place other number before count ltype same)
      ∙ ap (λ n. map core_without (nodes_in (names ++ name ∷ []) place number before ltype) ++ map core_of (nodes_in_parts names other (n + number) (number_of_physical (without_rates ltype) + count) (parts_without_rates more)))
      (streams-stay ltype)
      ∙ ap (λ (l : List Core). map core_without (nodes_in (names ++ name ∷ []) place number before ltype) ++ l)
      (all-cores-stay names place other (number_of_streams ltype + number) (number_of_physical ltype + before) (number_of_physical (without_rates ltype) + count) more same)
      ∙ sym (map-append core_without (nodes_in (names ++ name ∷ []) place number before ltype)
      (nodes_in_parts names place (number_of_streams ltype + number) (number_of_physical ltype + before) more))

port-cores : (ltype : Ltype) → map core_of (nodes_of (without_rates ltype)) ≡ map core_without (nodes_of ltype)
port-cores ltype = cores-stay [] outermost_place outermost_place 0 0 0 ltype (record { parent = refl; root = refl; dims = refl })

same-cores : (near far : Ltype) → without_rates far ≡ without_rates near → map core_without (nodes_of far) ≡ map core_without (nodes_of near)
same-cores near far same = sym (port-cores far) ∙ ap (λ (ltype : Ltype). map core_of (nodes_of ltype)) same ∙ port-cores near

-- ---- roots

abbrev roots_from : ℕ → List Core → List ℕ
roots_from number [] = []
roots_from number (core ∷ more) = (if core.root == number then number ∷ [] else []) ++ roots_from (suc number) more

roots-from : (number : ℕ) (all : List StreamNode) → gathered root_at number all ≡ roots_from number (map core_without all)
roots-from number [] = refl
roots-from number (node ∷ more) = ap (λ (l : List ℕ). root_at number node ++ l) (roots-from (suc number) more)

-- ---- values that fit

abbrev fits_core : Option Core → List Tree → Bool
fits_core None series = false
fits_core (Some core) series = all_pass (is_nest (fits_element core.element) core.dims) (trees_of series)

abbrev fit_cores : List Core → List ℕ → List (List Tree) → Bool
fit_cores cores [] [] = true
fit_cores cores (root ∷ roots) (series ∷ more) = fits_core (slice_get cores root) series && fit_cores cores roots more
fit_cores cores roots series = false

core-fits : (node : Option StreamNode) (series : List Tree) → fits_core (option_map core_without node) series ≡ fits_series node series
core-fits None series = refl
core-fits (Some node) series = nests-same (fits_element (without_rates node.element)) (fits_element node.element) (fits-stay node.element) node.params.dims (trees_of series)

cores-fit : (all : List StreamNode) (roots : List ℕ) (value : List (List Tree)) → fit_cores (map core_without all) roots value ≡ fit_roots all roots value
cores-fit all [] [] = refl
cores-fit all [] (series ∷ more) = refl
cores-fit all (root ∷ roots) [] = refl
cores-fit all (root ∷ roots) (series ∷ more) =
    ap (λ b. b && fit_cores (map core_without all) roots more) (ap (λ (o : Option Core). fits_core o series) (slice_get-map core_without all root) ∙ core-fits (slice_get all root) series)
    ∙ ap (λ b. fits_series (slice_get all root) series && b) (cores-fit all roots more)

same-fits : (near far : Ltype) → without_rates far ≡ without_rates near → (value : List (List Tree)) → fits_split (split_of far) value ≡ fits_split (split_of near) value
same-fits near far same value =
    let cores = same-cores near far same in
    let roots : roots_of far ≡ roots_of near = roots-from 0 (nodes_of far) ∙ ap (roots_from 0) cores ∙ sym (roots-from 0 (nodes_of near)) in
    sym (cores-fit (nodes_of far) (roots_of far) value) ∙ ap (λ (l : List Core). fit_cores l (roots_of far) value) cores ∙ ap (λ (l : List ℕ). fit_cores (map core_without (nodes_of near)) l value) roots
    ∙ cores-fit (nodes_of near) (roots_of near) value

-- ---- series

-- a node with its series, but for the throughputs and levels in the type of its elements
abbrev pub series_without : NodeSeries → NodeSeries
series_without node = record { element = without_rates node.element; dims = node.dims; series = node.series }

mutual
  roots-are : (ltype : Ltype) → number_of_roots (without_rates ltype) ≡ number_of_roots ltype
  roots-are types.null = refl
  roots-are (types.bits width) = refl
  roots-are (types.group parts) = all-roots-are parts
  roots-are (types.union parts) = all-roots-are parts
  roots-are (types.stream element user settings) = ap (λ n. (if is_apart settings.sync then 1 else 0) + n) (roots-are element)

  all-roots-are : (parts : Parts) → roots_of_parts (parts_without_rates parts) ≡ roots_of_parts parts
  all-roots-are types.no_parts = refl
  all-roots-are (types.part name ltype more) = ap (λ n. n + roots_of_parts (parts_without_rates more)) (roots-are ltype)
      ∙ ap (λ n. number_of_roots ltype + n) (all-roots-are more)

mutual
  series-stay : (dims : ℕ) (series : List Tree) (roots : List (List Tree)) (ltype : Ltype)
      → series_in dims series roots (without_rates ltype) ≡ map series_without (series_in dims series roots ltype)
  series-stay dims series roots types.null = refl
  series-stay dims series roots (types.bits width) = refl
  series-stay dims series roots (types.group parts) = all-series-stay dims series roots parts
  series-stay dims series roots (types.union parts) = all-series-stay dims series roots parts
  series-stay dims series roots (types.stream element user settings) =
      ap (λ (l : List NodeSeries).
      record { element = without_rates element; dims = dims_inside settings.sync dims settings.dims; series = series_inside settings.sync dims series roots }
      ∷ l)
      (series-stay (dims_inside settings.sync dims settings.dims) (series_inside settings.sync dims series roots) (roots_behind settings.sync roots) element)

  all-series-stay : (dims : ℕ) (series : List Tree) (roots : List (List Tree)) (parts : Parts)
      → series_in_parts dims series roots (parts_without_rates parts) ≡ map series_without (series_in_parts dims series roots parts)
  all-series-stay dims series roots types.no_parts = refl
  all-series-stay dims series roots (types.part name ltype more) =
      ap (λ (l : List NodeSeries). l ++ series_in_parts dims (replaced other_parts dims series) (drop (number_of_roots (without_rates ltype)) roots)
      (parts_without_rates more))
      (series-stay dims (replaced first_part dims series) roots ltype)
      ∙ ap (λ (l : List NodeSeries). map series_without (series_in dims (replaced first_part dims series) roots ltype) ++ l)
      (ap (λ n. series_in_parts dims (replaced other_parts dims series) (drop n roots) (parts_without_rates more)) (roots-are ltype)
      ∙ all-series-stay dims (replaced other_parts dims series) (drop (number_of_roots ltype) roots) more)
      ∙ sym (map-append series_without (series_in dims (replaced first_part dims series) roots ltype)
      (series_in_parts dims (replaced other_parts dims series) (drop (number_of_roots ltype) roots) more))

-- the series of nodes, by what values look at
abbrev series_of_cores : List Core → List (List Tree) → List NodeSeries
series_of_cores [] roots = []
series_of_cores (outermost ∷ others) roots =
    record { element = outermost.element; dims = outermost.dims; series = first_series roots } ∷ series_in outermost.dims (first_series roots) (drop 1 roots) outermost.element

cores-series : (all : List StreamNode) (roots : List (List Tree)) → series_of_cores (map core_without all) roots ≡ map series_without (series_of_nodes all roots)
cores-series [] roots = refl
cores-series (outermost ∷ others) roots =
    ap (λ (l : List NodeSeries). record { element = without_rates outermost.element; dims = outermost.params.dims; series = first_series roots } ∷ l)
    (series-stay outermost.params.dims (first_series roots) (drop 1 roots) outermost.element)

-- ---- views

view-stays : (found : Option NodeSeries) → option_map view_of (option_map series_without found) ≡ option_map view_of found
view-stays None = refl
view-stays (Some node) = ap Some (all-packed node.element node.dims node.series)

node-stays : (all : List NodeSeries) (phys : Option Phys) → node_of (map series_without all) phys ≡ option_map series_without (node_of all phys)
node-stays all None = refl
node-stays all (Some phys) = slice_get-map series_without all phys.node

-- the view of a stream, by what values look at
view-by : (all : List StreamNode) (streams : List Phys) (value : List (List Tree)) (number : ℕ) →
    option_map view_of (node_of (series_of_cores (map core_without all) value) (slice_get streams number)) ≡ option_map view_of (node_of (series_of_nodes all value) (slice_get streams number))
view-by all streams value number =
    ap (λ (l : List NodeSeries). option_map view_of (node_of l (slice_get streams number))) (cores-series all value)
    ∙ ap (option_map view_of) (node-stays (series_of_nodes all value) (slice_get streams number)) ∙ view-stays (node_of (series_of_nodes all value) (slice_get streams number))

same-views : (near far : Ltype) (lanes : ℕ) (level : LevelNumbers) → without_rates far ≡ without_rates near → streams_of far ≡ map (far_stream lanes level) (streams_of near) → (value : List (List Tree)) (number : ℕ)
    → view_of_stream (split_of far) value number ≡ view_of_stream (split_of near) value number
same-views near far lanes level same streams value number =
    sym (view-by (nodes_of far) (streams_of far) value number)
    ∙ ap (λ (l : List Core). option_map view_of (node_of (series_of_cores l value) (slice_get (streams_of far) number))) (same-cores near far same)
    ∙ ap (λ (l : List Phys). option_map view_of (node_of (series_of_cores (map core_without (nodes_of near)) value) (slice_get l number))) streams
    ∙ ap (option_map view_of) (node-same lanes level (series_of_cores (map core_without (nodes_of near)) value) (streams_of near) number)
    ∙ view-by (nodes_of near) (streams_of near) value number

pub rates_leave_values : RatesLeaveValues
rates_leave_values near far lanes level same streams = record { streams = streams; views = same-views near far lanes level same streams; fits = same-fits near far same }
