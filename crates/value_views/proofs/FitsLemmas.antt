-- The series of nodes of a value that fits: each fits its node.
use Rattle.std.proofs.Common.{◌≡◌, ◌∙◌, ℕ, zero, suc, ◌+◌, Bool, true, false, ◌&&◌, cond, List, [], ◌∷◌, ◌++◌, map, drop, slice_get, Option, Some, None, refl, sym, ap, subst, append_assoc, arith}
use Rattle.std.specs.Prelude.{if◌then◌else◌}
use Rattle.std.specs.List.{flat_map, filter_map, cons_option}
use Rattle.std.proofs.lemmas.List.{append-nil, drop-drop}
use Rattle.logical_types.specs.Faults.{effective_dims}
use Rattle.logical_types.specs.Synchronicity.{is_apart}
use Rattle.logical_types.specs.Tree.{Ltype, Parts, Settings, stream}
use Rattle.logical_types.specs.Tree as types
use Rattle.logical_types.specs.declared.ltype.Sync.{Sync}
use Rattle.logical_types.specs.declared.ltype.Sync.TheVariants as syncs
use Rattle.type_split.specs.Nodes.{StreamNode, is_physical, nodes_in, nodes_in_parts, node_at, number_of_physical, number_of_streams, outermost_place, place_inside}
use Rattle.type_split.specs.Standing.{AreFrom, roots_in, roots_in_parts}
use Rattle.type_split.specs.Streams.{IsPortSplit, PlainSplit, split_of}
use Rattle.type_split.proofs.StandingLemmas.{AreFrom-all, AreFrom-inside, AreFrom-node, AreFrom-part, AreFrom-parts, roots_in_order}
use Rattle.logical_value.specs.Fits.{all_pass, is_nest, stands_apart, fits_element, fit_fields, fits_series, fit_roots, fits_split}
use Rattle.logical_value.specs.Tree.{Tree, null, word, group, union, list, apart, Trees, no_trees, tree, trees_of, members}
use Rattle.logical_value.proofs.PlainLemmas.{trees_of-list_of}
use Rattle.value_views.specs.Laws.{NodesHaveSeries}
use Rattle.value_views.specs.Series.{listed, replaced, leaves, first_part, other_parts, deep, dims_inside, series_inside, roots_behind, number_of_roots, roots_of_parts, NodeSeries, series_in, series_in_parts, series_of_nodes}
use Rattle.value_views.specs.Way.{NodeType, type_of_node, type_of_series}
use Rattle.value_views.proofs.NodeLemmas.{Place, dims-are, nodes_inside, outermost_node, types-of_nodes}

both : (a b : Bool) → (a && b) ≡ true → (a ≡ true) × (b ≡ true)
both true b e = (refl, e)
both false b e = cc

and-true : (a b : Bool) → a ≡ true → b ≡ true → (a && b) ≡ true
and-true true b e f = f
and-true false b e f = cc

-- ---- tests of nests

all_pass-append : (test : Tree → Bool) (one other : List Tree) → all_pass test (trees_of one) ≡ true → all_pass test (trees_of other) ≡ true
    → all_pass test (trees_of (one ++ other)) ≡ true
all_pass-append test [] other pass others = others
all_pass-append test (value ∷ one) other pass others =
    let here = both (test value) (all_pass test (trees_of one)) pass in
    and-true (test value) (all_pass test (trees_of (one ++ other))) here.0 (all_pass-append test one other here.1 others)

are_members : (test : Tree → Bool) (depth : ℕ) (value : Tree) → is_nest test (suc depth) value ≡ true → all_pass (is_nest test depth) (trees_of (members value)) ≡ true
are_members test depth null fits = cc
are_members test depth (word bits) fits = cc
are_members test depth (group parts) fits = cc
are_members test depth (union tag held) fits = cc
are_members test depth (list parts) fits = subst (λ (t : Trees). all_pass (is_nest test depth) t ≡ true) (sym (trees_of-list_of parts)) fits
are_members test depth apart fits = cc

members-pass : (test : Tree → Bool) (depth : ℕ) (series : List Tree) → all_pass (is_nest test (suc depth)) (trees_of series) ≡ true
    → all_pass (is_nest test depth) (trees_of (flat_map members series)) ≡ true
members-pass test depth [] pass = refl
members-pass test depth (value ∷ series) pass =
    let here = both (is_nest test (suc depth) value) (all_pass (is_nest test (suc depth)) (trees_of series)) pass in
    all_pass-append (is_nest test depth) (members value) (flat_map members series) (are_members test depth value here.0) (members-pass test depth series here.1)

-- the leaves of nests pass
leaves-pass : (test : Tree → Bool) (dims : ℕ) (series : List Tree) → all_pass (is_nest test dims) (trees_of series) ≡ true → all_pass test (trees_of (leaves dims series)) ≡ true
leaves-pass test zero series pass = pass
leaves-pass test (suc dims) series pass = leaves-pass test dims (flat_map members series) (members-pass test dims series pass)

-- a nest of nests is a deeper nest
mutual
  is_nest-deep : (test : Tree → Bool) (depth own : ℕ) (value : Tree) → is_nest (is_nest test own) depth value ≡ is_nest test (deep depth own) value
  is_nest-deep test zero own value = refl
  is_nest-deep test (suc depth) own null = refl
  is_nest-deep test (suc depth) own (word bits) = refl
  is_nest-deep test (suc depth) own (group parts) = refl
  is_nest-deep test (suc depth) own (union tag held) = refl
  is_nest-deep test (suc depth) own (list parts) = all_pass-deep test depth own parts
  is_nest-deep test (suc depth) own apart = refl

  all_pass-deep : (test : Tree → Bool) (depth own : ℕ) (values : Trees) → all_pass (is_nest (is_nest test own) depth) values ≡ all_pass (is_nest test (deep depth own)) values
  all_pass-deep test depth own no_trees = refl
  all_pass-deep test depth own (tree value more) =
      ap (λ (b : Bool). b && all_pass (is_nest (is_nest test own) depth) more) (is_nest-deep test depth own value)
      ∙ ap (λ (b : Bool). is_nest test (deep depth own) value && b) (all_pass-deep test depth own more)

-- ---- leaves that are replaced

-- the value that replaces a leaf passes
abbrev ChoicePasses : (Tree → Bool) → Option Tree → Type 0
ChoicePasses test None = Unit {0}
ChoicePasses test (Some value) = test value ≡ true

cons-pass : (test : Tree → Bool) (o : Option Tree) (more : List Tree) → ChoicePasses test o → all_pass test (trees_of more) ≡ true → all_pass test (trees_of (cons_option o more)) ≡ true
cons-pass test None more is pass = pass
cons-pass test (Some value) more is pass = and-true (test value) (all_pass test (trees_of more)) is pass

replaced-pass : (old new : Tree → Bool) (f : Tree → Option Tree) → ((value : Tree) → old value ≡ true → ChoicePasses new (f value)) → (dims : ℕ) (series : List Tree)
    → all_pass (is_nest old dims) (trees_of series) ≡ true → all_pass (is_nest new dims) (trees_of (replaced f dims series)) ≡ true
replaced-pass old new f each zero [] pass = refl
replaced-pass old new f each (suc dims) [] pass = refl
replaced-pass old new f each zero (value ∷ series) pass =
    let here = both (old value) (all_pass old (trees_of series)) pass in
    cons-pass new (f value) (filter_map f series) (each value here.0) (replaced-pass old new f each zero series here.1)
replaced-pass old new f each (suc dims) (value ∷ series) pass =
    let here = both (is_nest old (suc dims) value) (all_pass (is_nest old (suc dims)) (trees_of series)) pass in
    and-true (is_nest new (suc dims) (listed (replaced f dims (members value)))) (all_pass (is_nest new (suc dims)) (trees_of (replaced f (suc dims) series)))
    (replaced-pass old new f each dims (members value) (are_members old dims value here.0))
    (replaced-pass old new f each (suc dims) series here.1)

first-field : (name : List ℕ) (ltype : Ltype) (more : Parts) (value : Tree) → fits_element (types.group (types.part name ltype more)) value ≡ true
    → ChoicePasses (fits_element ltype) (first_part value)
first-field name ltype more (group (tree value values)) fits = (both (fits_element ltype value) (fit_fields more values) fits).0
first-field name ltype more (group no_trees) fits = cc
first-field name ltype more null fits = cc
first-field name ltype more (word bits) fits = cc
first-field name ltype more (union tag held) fits = cc
first-field name ltype more (list values) fits = cc
first-field name ltype more apart fits = cc

other-fields : (name : List ℕ) (ltype : Ltype) (more : Parts) (value : Tree) → fits_element (types.group (types.part name ltype more)) value ≡ true
    → ChoicePasses (fits_element (types.group more)) (other_parts value)
other-fields name ltype more (group (tree value values)) fits = (both (fits_element ltype value) (fit_fields more values) fits).1
other-fields name ltype more (group no_trees) fits = cc
other-fields name ltype more null fits = cc
other-fields name ltype more (word bits) fits = cc
other-fields name ltype more (union tag held) fits = cc
other-fields name ltype more (list values) fits = cc
other-fields name ltype more apart fits = cc

first-variant : (name : List ℕ) (ltype : Ltype) (more : Parts) (value : Tree) → fits_element (types.union (types.part name ltype more)) value ≡ true
    → ChoicePasses (fits_element ltype) (first_part value)
first-variant name ltype more (union zero held) fits = fits
first-variant name ltype more (union (suc tag) held) fits = tt
first-variant name ltype more null fits = cc
first-variant name ltype more (word bits) fits = cc
first-variant name ltype more (group values) fits = cc
first-variant name ltype more (list values) fits = cc
first-variant name ltype more apart fits = cc

other-variants : (name : List ℕ) (ltype : Ltype) (more : Parts) (value : Tree) → fits_element (types.union (types.part name ltype more)) value ≡ true
    → ChoicePasses (fits_element (types.union more)) (other_parts value)
other-variants name ltype more (union zero held) fits = tt
other-variants name ltype more (union (suc tag) held) fits = fits
other-variants name ltype more null fits = cc
other-variants name ltype more (word bits) fits = cc
other-variants name ltype more (group values) fits = cc
other-variants name ltype more (list values) fits = cc
other-variants name ltype more apart fits = cc

-- ---- node after node

-- each of these series fits its elements and its dimensionality
abbrev FitsNode : NodeSeries → Type 0
FitsNode node = all_pass (is_nest (fits_element node.element) node.dims) (trees_of node.series) ≡ true

abbrev EachFits : List NodeSeries → Type 0
EachFits [] = Unit {0}
EachFits (node ∷ more) = FitsNode node × EachFits more

EachFits-append : (one other : List NodeSeries) → EachFits one → EachFits other → EachFits (one ++ other)
EachFits-append [] other are others = others
EachFits-append (node ∷ one) other are others = (are.0, EachFits-append one other are.1 others)

EachFits-at : (nodes : List NodeSeries) (number : ℕ) (node : NodeSeries) → EachFits nodes → slice_get nodes number ≡ Some node → FitsNode node
EachFits-at [] number node are found = cc
EachFits-at (first ∷ nodes) zero node are found = (let same : first ≡ node = cc in subst FitsNode same are.0)
EachFits-at (first ∷ nodes) (suc number) node are found = EachFits-at nodes number node are.1 found

-- the series inside a Stream fits its elements, and the roots behind it fit theirs
inside-fits : (sync : Sync) (element : Ltype) (dims own number : ℕ) (series : List Tree) (nodes : List StreamNode) (node : StreamNode) (inner : List ℕ) (roots : List (List Tree))
    → all_pass (is_nest (λ value. if is_apart sync then stands_apart value else is_nest (fits_element element) own value) dims) (trees_of series) ≡ true
    → slice_get nodes number ≡ Some node → node.element ≡ element → node.params.dims ≡ dims_inside sync dims own
    → fit_roots nodes (cond (is_apart sync) (number ∷ []) [] ++ inner) roots ≡ true
    → (all_pass (is_nest (fits_element element) (dims_inside sync dims own)) (trees_of (series_inside sync dims series roots)) ≡ true)
    × (fit_roots nodes inner (roots_behind sync roots) ≡ true)
inside-fits syncs.Sync element dims own number series nodes node inner roots fits found is deep_is roots_fit =
    (sym (all_pass-deep (fits_element element) dims own (trees_of series)) ∙ fits, roots_fit)
inside-fits syncs.Flatten element dims own number series nodes node inner roots fits found is deep_is roots_fit =
    (leaves-pass (is_nest (fits_element element) own) dims series fits, roots_fit)
inside-fits syncs.Desync element dims own number series nodes node inner [] fits found is deep_is roots_fit = cc
inside-fits syncs.FlatDesync element dims own number series nodes node inner [] fits found is deep_is roots_fit = cc
inside-fits syncs.Desync element dims own number series nodes node inner (given ∷ roots) fits found is deep_is roots_fit =
    let here = both (fits_series (slice_get nodes number) given) (fit_roots nodes inner roots) roots_fit in (
      ap (λ (d : ℕ). all_pass (is_nest (fits_element element) d) (trees_of given)) (sym deep_is)
          ∙ ap (λ (t : Ltype). all_pass (is_nest (fits_element t) node.params.dims) (trees_of given)) (sym is)
          ∙ ap (λ (o : Option StreamNode). fits_series o given) (sym found)
          ∙ here.0,
      here.1,
    )
inside-fits syncs.FlatDesync element dims own number series nodes node inner (given ∷ roots) fits found is deep_is roots_fit =
    let here = both (fits_series (slice_get nodes number) given) (fit_roots nodes inner roots) roots_fit in (
      ap (λ (d : ℕ). all_pass (is_nest (fits_element element) d) (trees_of given)) (sym deep_is)
          ∙ ap (λ (t : Ltype). all_pass (is_nest (fits_element t) node.params.dims) (trees_of given)) (sym is)
          ∙ ap (λ (o : Option StreamNode). fits_series o given) (sym found)
          ∙ here.0,
      here.1,
    )

drop-one : (n : ℕ) (roots : List (List Tree)) → drop (1 + n) roots ≡ drop n (drop 1 roots)
drop-one n roots = (let more : 1 + n ≡ suc n = omega arith in ap (λ (k : ℕ). drop k roots) more ∙ behind n roots)
  where
    behind : (n : ℕ) (roots : List (List Tree)) → drop (suc n) roots ≡ drop n (drop 1 roots)
    behind zero [] = refl
    behind (suc n) [] = refl
    behind n (first ∷ roots) = refl

pub drop-behind : (sync : Sync) (n : ℕ) (roots : List (List Tree)) → drop n (roots_behind sync roots) ≡ drop (cond (is_apart sync) 1 0 + n) roots
drop-behind syncs.Sync n roots = (let same : n ≡ 0 + n = omega arith in ap (λ (k : ℕ). drop k roots) same)
drop-behind syncs.Flatten n roots = (let same : n ≡ 0 + n = omega arith in ap (λ (k : ℕ). drop k roots) same)
drop-behind syncs.Desync n roots = sym (drop-one n roots)
drop-behind syncs.FlatDesync n roots = sym (drop-one n roots)

-- the series of a type's nodes fit, and the roots behind the type fit their nodes
record AllFit (nodes : List StreamNode) (series : List NodeSeries) (others : List ℕ) (behind : List (List Tree)) : Type 0 where
  each : EachFits series
  rest : fit_roots nodes others behind ≡ true

mutual
  all-fit : (nodes : List StreamNode) (names : List (List ℕ)) (place : Place) (number physical : ℕ) (ltype : Ltype) (dims : ℕ) (series : List Tree) (others : List ℕ) (roots : List (List Tree))
      → place.around.dims ≡ dims → AreFrom nodes number (nodes_in names place number physical ltype) → all_pass (is_nest (fits_element ltype) dims) (trees_of series) ≡ true
      → fit_roots nodes (roots_in number ltype ++ others) roots ≡ true → AllFit nodes (series_in dims series roots ltype) others (drop (number_of_roots ltype) roots)
  all-fit nodes names place number physical types.null dims series others roots around from fits roots_fit = record { each = tt; rest = roots_fit }
  all-fit nodes names place number physical (types.bits width) dims series others roots around from fits roots_fit = record { each = tt; rest = roots_fit }
  all-fit nodes names place number physical (types.group parts) dims series others roots around from fits roots_fit =
      all-fit_fields nodes names place number physical parts dims series others roots around from fits roots_fit
  all-fit nodes names place number physical (types.union parts) dims series others roots around from fits roots_fit =
      all-fit_variants nodes names place number physical parts dims series others roots around from fits roots_fit
  all-fit nodes names place number physical (types.stream element user settings) dims series others roots around from fits roots_fit =
      let sync = settings.sync in
      let inner = dims_inside sync dims settings.dims in
      let same : effective_dims settings.dims sync place.around.dims ≡ inner = dims-are sync place.around.dims dims settings.dims around in
      let before = (if is_physical element user settings then 1 else 0) + physical in
      let inside = AreFrom-inside nodes names place number physical element user settings from in
      let behind = roots_in (suc number) element ++ others in
      let both_fit = inside-fits sync element dims settings.dims number series nodes (node_at names place number physical element user settings) behind roots fits inside.0 refl same
      (ap (λ (l : List ℕ). fit_roots nodes l roots) (sym (append_assoc (cond (is_apart sync) (number ∷ []) []) (roots_in (suc number) element) others)) ∙ roots_fit) in
      let rest = all-fit nodes names (place_inside place number settings) (suc number) before element inner (series_inside sync dims series roots) others (roots_behind sync roots) same inside.1
      both_fit.0 both_fit.1 in
      record {
        each = (both_fit.0, rest.each);
        rest = ap (fit_roots nodes others) (sym (drop-behind sync (number_of_roots element) roots)) ∙ rest.rest;
      }

  all-fit_fields : (nodes : List StreamNode) (names : List (List ℕ)) (place : Place) (number physical : ℕ) (parts : Parts) (dims : ℕ) (series : List Tree) (others : List ℕ)
      (roots : List (List Tree)) → place.around.dims ≡ dims → AreFrom nodes number (nodes_in_parts names place number physical parts)
      → all_pass (is_nest (fits_element (types.group parts)) dims) (trees_of series) ≡ true → fit_roots nodes (roots_in_parts number parts ++ others) roots ≡ true
      → AllFit nodes (series_in_parts dims series roots parts) others (drop (roots_of_parts parts) roots)
  all-fit_fields nodes names place number physical types.no_parts dims series others roots around from fits roots_fit = record { each = tt; rest = roots_fit }
  all-fit_fields nodes names place number physical (types.part name ltype more) dims series others roots around from fits roots_fit =
      let next = number_of_streams ltype + number in
      let first = all-fit nodes (names ++ name ∷ []) place number physical ltype dims (replaced first_part dims series) (roots_in_parts next more ++ others) roots around
      (AreFrom-part nodes names place number physical name ltype more from)
      (replaced-pass (fits_element (types.group (types.part name ltype more))) (fits_element ltype) first_part (first-field name ltype more) dims series fits)
      (ap (λ (l : List ℕ). fit_roots nodes l roots) (sym (append_assoc (roots_in number ltype) (roots_in_parts next more) others)) ∙ roots_fit) in
      let rest = all-fit_fields nodes names place next (number_of_physical ltype + physical) more dims (replaced other_parts dims series) others (drop (number_of_roots ltype) roots) around
      (AreFrom-parts nodes names place number physical name ltype more from)
      (replaced-pass (fits_element (types.group (types.part name ltype more))) (fits_element (types.group more)) other_parts (other-fields name ltype more) dims series fits) first.rest in
      record {
        each = EachFits-append (series_in dims (replaced first_part dims series) roots ltype) (series_in_parts dims (replaced other_parts dims series) (drop (number_of_roots ltype) roots) more)
            first.each rest.each;
        rest = ap (fit_roots nodes others) (sym (drop-drop (roots_of_parts more) (number_of_roots ltype) roots)) ∙ rest.rest;
      }

  all-fit_variants : (nodes : List StreamNode) (names : List (List ℕ)) (place : Place) (number physical : ℕ) (parts : Parts) (dims : ℕ) (series : List Tree) (others : List ℕ)
      (roots : List (List Tree)) → place.around.dims ≡ dims → AreFrom nodes number (nodes_in_parts names place number physical parts)
      → all_pass (is_nest (fits_element (types.union parts)) dims) (trees_of series) ≡ true → fit_roots nodes (roots_in_parts number parts ++ others) roots ≡ true
      → AllFit nodes (series_in_parts dims series roots parts) others (drop (roots_of_parts parts) roots)
  all-fit_variants nodes names place number physical types.no_parts dims series others roots around from fits roots_fit = record { each = tt; rest = roots_fit }
  all-fit_variants nodes names place number physical (types.part name ltype more) dims series others roots around from fits roots_fit =
      let next = number_of_streams ltype + number in
      let first = all-fit nodes (names ++ name ∷ []) place number physical ltype dims (replaced first_part dims series) (roots_in_parts next more ++ others) roots around
      (AreFrom-part nodes names place number physical name ltype more from)
      (replaced-pass (fits_element (types.union (types.part name ltype more))) (fits_element ltype) first_part (first-variant name ltype more) dims series fits)
      (ap (λ (l : List ℕ). fit_roots nodes l roots) (sym (append_assoc (roots_in number ltype) (roots_in_parts next more) others)) ∙ roots_fit) in
      let rest = all-fit_variants nodes names place next (number_of_physical ltype + physical) more dims (replaced other_parts dims series) others (drop (number_of_roots ltype) roots) around
      (AreFrom-parts nodes names place number physical name ltype more from)
      (replaced-pass (fits_element (types.union (types.part name ltype more))) (fits_element (types.union more)) other_parts (other-variants name ltype more) dims series fits) first.rest in
      record {
        each = EachFits-append (series_in dims (replaced first_part dims series) roots ltype) (series_in_parts dims (replaced other_parts dims series) (drop (number_of_roots ltype) roots) more)
            first.each rest.each;
        rest = ap (fit_roots nodes others) (sym (drop-drop (roots_of_parts more) (number_of_roots ltype) roots)) ∙ rest.rest;
      }

-- ---- all nodes of a port

port-fits : (element user : Ltype) (settings : Settings) (roots : List (List Tree)) → fits_split (split_of (stream element user settings)) roots ≡ true
    → EachFits (series_of_nodes (split_of (stream element user settings)).nodes roots)
port-fits element user settings roots fits = from_roots roots (ap (λ (l : List ℕ). fit_roots nodes l roots) (sym (roots_in_order element user settings)) ∙ fits)
  where
    first : StreamNode
    first = outermost_node element user settings

    nodes : List StreamNode
    nodes = first ∷ nodes_inside element user settings

    from_roots : (roots : List (List Tree)) → fit_roots nodes (0 ∷ roots_in 1 element) roots ≡ true → EachFits (series_of_nodes nodes roots)
    from_roots [] fits = cc
    from_roots (given ∷ more) fits =
        let here = both (fits_series (Some first) given) (fit_roots nodes (roots_in 1 element) more) fits in
        let from = AreFrom-node nodes 0 first (nodes_inside element user settings) (AreFrom-all nodes) in
        let rest = all-fit nodes [] (place_inside outermost_place 0 settings) 1 ((if is_physical element user settings then 1 else 0) + 0) element first.params.dims given [] more refl from.1
        here.0 (ap (λ (l : List ℕ). fit_roots nodes l more) (append-nil (roots_in 1 element)) ∙ here.1) in
        (here.0, rest.each)

all-fits : (split : PlainSplit) → IsPortSplit split → (roots : List (List Tree)) → fits_split split roots ≡ true → EachFits (series_of_nodes split.nodes roots)
all-fits split is roots fits =
    let same = is.is ∙ ap split_of is.port.is in
    subst (λ (s : PlainSplit). EachFits (series_of_nodes s.nodes roots)) (sym same)
    (port-fits is.port.element is.port.user is.port.settings roots (ap (λ (s : PlainSplit). fits_split s roots) (sym same) ∙ fits))

-- where two lists have one image, what is found in the first is found in the second
found_with : (l : List StreamNode) (m : List NodeSeries) (at : ℕ) (x : StreamNode) → map type_of_node l ≡ map type_of_series m → slice_get l at ≡ Some x
    → (node : NodeSeries) × ((slice_get m at ≡ Some node) × (type_of_series node ≡ type_of_node x))
found_with [] m at x are found = cc
found_with (a ∷ l) [] at x are found = cc
found_with (a ∷ l) (b ∷ m) zero x are found =
    let heads : type_of_node a ≡ type_of_series b = cc in let same : a ≡ x = cc in (b, (refl, sym heads ∙ ap type_of_node same))
found_with (a ∷ l) (b ∷ m) (suc at) x are found = found_with l m at x (cc) found

pub nodes-have-series : NodesHaveSeries
nodes-have-series split is roots fits number node found =
    let here = found_with split.nodes (series_of_nodes split.nodes roots) number node (types-of_nodes split is roots) found in
    let dims = ap (λ (t : NodeType). t.dims) here.1.1 in
    let element = ap (λ (t : NodeType). t.element) here.1.1 in
    record {
      at = here.0;
      found = here.1.0;
      element = element;
      dims = dims;
      fits = ap (λ (t : Ltype). all_pass (is_nest (fits_element t) node.params.dims) (trees_of here.0.series)) (sym element)
          ∙ ap (λ (d : ℕ). all_pass (is_nest (fits_element here.0.element) d) (trees_of here.0.series)) (sym dims)
          ∙ EachFits-at (series_of_nodes split.nodes roots) number here.0 (all-fits split is roots fits) here.1.0;
    }
