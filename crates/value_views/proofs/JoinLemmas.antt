-- Views and values of a port: the views of a value agree, views that agree are those of a value, and of one alone.
use Rattle.std.proofs.Common.{◌≡◌, ◌∙◌, ℕ, zero, suc, ◌+◌, Bool, true, false, ◌&&◌, cond, List, [], ◌∷◌, length, map, drop, slice_get, Option, Some, None, refl, sym, ap, subst, arith, length-append}
use Rattle.std.specs.Prelude.{if◌then◌else◌}
use Rattle.std.proofs.lemmas.List.{append-nil, length-drop}
use Rattle.logical_types.specs.Faults.{IsPlain}
use Rattle.logical_types.specs.Synchronicity.{is_apart}
use Rattle.logical_types.specs.Tree.{Ltype, Parts, Settings, stream}
use Rattle.logical_types.specs.Tree as types
use Rattle.logical_types.specs.Width.{width_of}
use Rattle.type_split.specs.Carried.{uncarried_of}
use Rattle.type_split.specs.Elements.{HasElements}
use Rattle.type_split.specs.Nodes.{StreamNode, is_physical, nodes_of, number_of_streams, outermost_place, place_inside}
use Rattle.type_split.specs.Standing.{AreFrom, IsTold, roots_in, roots_in_parts}
use Rattle.type_split.specs.Streams.{IsPortSplit, PlainSplit, split_of}
use Rattle.type_split.specs.declared.split.Phys.{Phys}
use Rattle.type_split.proofs.ElementLemmas.{nodes_have_elements}
use Rattle.type_split.proofs.StandingLemmas.{AreFrom-all, AreFrom-node, are_told_where_carried, roots_in_order}
use Rattle.nest_shape.specs.Flat.{HaveDepth}
use Rattle.nest_shape.specs.Tree.{trees_of}
use Rattle.nest_shape.specs.Tree as nests
use Rattle.logical_value.specs.Element.{IsElement, set_apart}
use Rattle.logical_value.specs.Fits.{fit_roots, fits_series, fits_split}
use Rattle.logical_value.specs.Tree.{Tree}
use Rattle.value_views.specs.Comparing.{Disagreement, disagreement_of, disagreements_in}
use Rattle.value_views.specs.Joining.{AreViews, HasViews, HaveWords, IsView, ShowsView, ViewsOfValuesAgree, AgreeingViewsHaveValues, ViewsDetermineValues}
use Rattle.value_views.specs.Laws.{HasSeries}
use Rattle.value_views.specs.Series.{leaves, first_series, number_of_roots, roots_of_parts, NodeSeries, series_of_nodes}
use Rattle.value_views.specs.Shown.{ArePlain, PortShows, RootsShow}
use Rattle.value_views.specs.Words.{blank_of, blank_series, first_carried, given_at, in_nest, some_series, unpacked}
use Rattle.value_views.proofs.BlankLemmas.{blank-apart, blank-element}
use Rattle.value_views.proofs.FitsLemmas.{nodes-have-series}
use Rattle.value_views.proofs.GivenLemmas.{IsGiven, HoldFrom, HoldFrom-at, given-nodes, node-stream, pair-at, pair-each, stream-node, view-found, view_at}
use Rattle.value_views.proofs.NestLemmas.{leaves-in_nest}
use Rattle.value_views.proofs.NodeLemmas.{nodes_inside, outermost_node}
use Rattle.value_views.proofs.PortLemmas.{port_agrees, port_joined, port_one}
use Rattle.value_views.proofs.TiedLemmas.{IsShownNode, IsTied, each-shown, fit-elements, first-whole, node-given, root-fits, roots-fit, series-in, series-nests, shown-in}
use Rattle.value_views.proofs.ValueLemmas.{are_nests-in_nest}
use Rattle.value_views.proofs.ViewLemmas.{all-at}
use Rattle.value_views.proofs.WordLemmas.{AreValues, agreed-series, series-agrees, view-values}

-- two things found at one place of a list are equal
pub one-found : {A : Type 0} (o : Option A) (x y : A) → o ≡ Some x → o ≡ Some y → x ≡ y
one-found None x y is is' = cc
one-found (Some z) x y is is' = (let first : z ≡ x = cc in let second : z ≡ y = cc in sym first ∙ second)

-- ---- nodes without a physical stream

pub carried-child : (split : PlainSplit) → IsPortSplit split → uncarried_of split ≡ None → (number : ℕ) (node : StreamNode) → slice_get split.nodes number ≡ Some node → node.phys ≡ None
    → IsTold split.nodes number node
carried-child split is carried number node found unseen =
    subst (λ (s : PlainSplit). IsTold s.nodes number node) (sym is.is)
    (are_told_where_carried is.ltype (ap uncarried_of (sym is.is) ∙ carried) number node (ap (λ (s : PlainSplit). slice_get s.nodes number) (sym is.is) ∙ found) unseen)

-- ---- the nodes of a value that has views

tied-nodes : (split : PlainSplit) → IsPortSplit split → uncarried_of split ≡ None → (roots : List (List Tree)) (views : List (List nests.Tree)) → HasViews split roots views
    → (number : ℕ) (node : StreamNode) → slice_get split.nodes number ≡ Some node → IsTied (given_at split views) (series_of_nodes split.nodes roots) number node
tied-nodes split is carried roots views has number node found = record {
  fit = λ at there. ap (λ (n : NodeSeries). fits_series (Some node) n.series) (same at there) ∙ series.fits;
  seen = λ at there phys seen. given.seen phys seen ∙ from_view at there phys seen;
  unseen = λ unseen. (let child = carried-child split is carried number node found unseen in record { narrow = child.narrow; has = child.has; is = given.unseen unseen });
}
  where
    all : List NodeSeries
    all = series_of_nodes split.nodes roots

    series : HasSeries all number node
    series = nodes-have-series split is roots has.fits number node found

    given : IsGiven views (given_at split views) number node
    given = given-nodes split is views number node found

    same : (at : NodeSeries) → slice_get all number ≡ Some at → at ≡ series.at
    same at there = one-found (slice_get all number) at series.at there series.found

    from_view : (at : NodeSeries) → slice_get all number ≡ Some at → (phys : ℕ) → node.phys ≡ Some phys
        → map (unpacked node.element) (view_at phys views) ≡ map (in_nest (set_apart node.element) node.params.dims) at.series
    from_view at there phys seen =
        let one = node-stream split is number phys node found seen in
        let pair = pair-at (ShowsView all) split.streams views phys one.one has.shown one.found in
        let shows = pair.holds in
        let here : slice_get all number ≡ Some shows.node = subst (λ (n : ℕ). slice_get all n ≡ Some shows.node) one.node_is shows.found in
        let is_at : shows.node ≡ at = one-found (slice_get all number) shows.node at here there in
        let element : shows.node.element ≡ node.element = ap (λ (n : NodeSeries). n.element) (is_at ∙ same at there) ∙ series.element in
        let dims : shows.node.dims ≡ node.params.dims = ap (λ (n : NodeSeries). n.dims) (is_at ∙ same at there) ∙ series.dims in
        ap (map (unpacked node.element)) (view-found views phys pair.other pair.found)
        ∙ ap (λ (t : Ltype). map (unpacked t) pair.other) (sym element)
        ∙ agreed-series shows.node.element shows.node.dims pair.other shows.node.series shows.agree
        ∙ ap (λ (t : Ltype). map (in_nest (set_apart t) shows.node.dims) shows.node.series) element
        ∙ ap (λ (d : ℕ). map (in_nest (set_apart node.element) d) shows.node.series) dims
        ∙ ap (λ (n : NodeSeries). map (in_nest (set_apart node.element) node.params.dims) n.series) is_at

-- ---- how many roots there are

pub fit-length : (nodes : List StreamNode) (roots : List ℕ) (series : List (List Tree)) → fit_roots nodes roots series ≡ true → length series ≡ length roots
fit-length nodes [] [] fits = refl
fit-length nodes [] (one ∷ more) fits = cc
fit-length nodes (root ∷ roots) [] fits = cc
fit-length nodes (root ∷ roots) (one ∷ more) fits = ap suc (fit-length nodes roots more (second (fits_series (slice_get nodes root) one) (fit_roots nodes roots more) fits))
  where
    second : (a b : Bool) → (a && b) ≡ true → b ≡ true
    second true b e = e
    second false b e = cc

root-length : (apart : Bool) (number : ℕ) → length (cond apart (number ∷ []) []) ≡ cond apart 1 0
root-length true number = refl
root-length false number = refl

mutual
  pub roots_in-length : (number : ℕ) (ltype : Ltype) → length (roots_in number ltype) ≡ number_of_roots ltype
  roots_in-length number types.null = refl
  roots_in-length number (types.bits width) = refl
  roots_in-length number (types.group parts) = roots_in_parts-length number parts
  roots_in-length number (types.union parts) = roots_in_parts-length number parts
  roots_in-length number (types.stream element user settings) =
      length-append (cond (is_apart settings.sync) (number ∷ []) []) (roots_in (suc number) element)
      ∙ ap (λ (n : ℕ). n + length (roots_in (suc number) element)) (root-length (is_apart settings.sync) number)
      ∙ ap (λ (n : ℕ). cond (is_apart settings.sync) 1 0 + n) (roots_in-length (suc number) element)

  roots_in_parts-length : (number : ℕ) (parts : Parts) → length (roots_in_parts number parts) ≡ roots_of_parts parts
  roots_in_parts-length number types.no_parts = refl
  roots_in_parts-length number (types.part name ltype more) =
      length-append (roots_in number ltype) (roots_in_parts (number_of_streams ltype + number) more)
      ∙ ap (λ (n : ℕ). n + length (roots_in_parts (number_of_streams ltype + number) more)) (roots_in-length number ltype)
      ∙ ap (λ (n : ℕ). number_of_roots ltype + n) (roots_in_parts-length (number_of_streams ltype + number) more)

pub none-left : (l : List (List Tree)) (n : ℕ) → length l ≡ n → drop n l ≡ []
none-left [] zero long = refl
none-left [] (suc n) long = absurd (omega (arith, long))
none-left (x ∷ l) zero long = absurd (omega (arith, long))
none-left (x ∷ l) (suc n) long = none-left l n (omega (arith, long))

-- ---- a port

-- the facts of a port's nodes
pub nodes-from : (element user : Ltype) (settings : Settings) → AreFrom (nodes_of (stream element user settings)) 1 (nodes_inside element user settings)
nodes-from element user settings =
    let nodes = nodes_of (stream element user settings) in (AreFrom-node nodes 0 (outermost_node element user settings) (nodes_inside element user settings) (AreFrom-all nodes)).1

-- a value of a port that has views shows the series that they give
shown-stream : (element user : Ltype) (settings : Settings) (roots : List (List Tree)) (views : List (List nests.Tree)) → fits_split (split_of (stream element user settings)) roots ≡ true
    → ((number : ℕ) (node : StreamNode) → slice_get (nodes_of (stream element user settings)) number ≡ Some node
    → IsTied (given_at (split_of (stream element user settings)) views) (series_of_nodes (nodes_of (stream element user settings)) roots) number node)
    → PortShows (given_at (split_of (stream element user settings)) views) element (outermost_node element user settings).params.dims roots
shown-stream element user settings roots views fits tied =
    let first = outermost_node element user settings in
    let nodes = nodes_of (stream element user settings) in
    let given = given_at (split_of (stream element user settings)) views in
    let dims = first.params.dims in
    let s = first_series roots in
    let all = series_of_nodes nodes roots in
    let at : NodeSeries = record { element = element; dims = dims; series = s } in
    let here = tied 0 first refl in
    let are = series-nests element dims s (here.fit at refl) in
    let elements = fit-elements element (leaves dims s) are.inner in
    let long : length roots ≡ suc (number_of_roots element) =
    fit-length nodes (0 ∷ roots_in 1 element) roots (ap (λ (l : List ℕ). fit_roots nodes l roots) (sym (roots_in_order element user settings)) ∙ fits) ∙ ap suc (roots_in-length 1 element) in
    let left = length-drop 1 roots in
    let behind : length (drop 1 roots) ≡ number_of_roots element = omega (arith, long, left) in
    let rest = shown-in given all nodes tied [] (place_inside outermost_place 0 settings) 1 ((if is_physical element user settings then 1 else 0) + 0) element dims s (drop 1 roots) refl
    (nodes-from element user settings)
    (λ k x found. (let same : suc k ≡ k + 1 = omega arith in subst (λ (n : ℕ). slice_get all n ≡ Some x) same found))
    are.nests are.inner (omega (arith, behind)) in
    record {
      series = s;
      more = drop 1 roots;
      whole = first-whole roots (omega (arith, long));
      shown_as = record {
        nests = are.nests;
        root = node-given given all 0 first (is_physical element user settings) 0 dims s here refl refl refl elements rest.shows;
        elements = elements;
        inside = rest.shows;
      };
      others = subst (RootsShow given 1 dims element (drop 1 roots)) (none-left (drop 1 roots) (number_of_roots element) behind) rest.roots_show;
    }

-- the outermost node of a split
pub record HasOutermost (split : PlainSplit) : Type 0 where
  pub element : Ltype
  pub user : Ltype
  pub settings : Settings
  pub is : split ≡ split_of (stream element user settings)

abbrev pub has-outermost : (split : PlainSplit) → IsPortSplit split → HasOutermost split
has-outermost split is = record { element = is.port.element; user = is.port.user; settings = is.port.settings; is = is.is ∙ ap split_of is.port.is }

abbrev pub ShowsPort : (split : PlainSplit) → HasOutermost split → List (List Tree) → List (List nests.Tree) → Type 0
ShowsPort split port roots views = PortShows (given_at split views) port.element (outermost_node port.element port.user port.settings).params.dims roots

pub shown-port : (split : PlainSplit) → IsPortSplit split → uncarried_of split ≡ None → (port : HasOutermost split) (roots : List (List Tree)) (views : List (List nests.Tree))
    → HasViews split roots views → ShowsPort split port roots views
shown-port split is carried port roots views has =
    let whole = stream port.element port.user port.settings in
    subst (λ (s : PlainSplit). PortShows (given_at s views) port.element (outermost_node port.element port.user port.settings).params.dims roots) (sym port.is)
    (shown-stream port.element port.user port.settings roots views (ap (λ (s : PlainSplit). fits_split s roots) (sym port.is) ∙ has.fits)
    (subst (λ (s : PlainSplit). (number : ℕ) (node : StreamNode) → slice_get s.nodes number ≡ Some node → IsTied (given_at s views) (series_of_nodes s.nodes roots) number node) port.is
    (tied-nodes split is carried roots views has)))

-- ---- the views of a value agree

pub disagreements-are : (split : PlainSplit) (port : HasOutermost split) (views : List (List nests.Tree))
    → disagreement_of split views ≡ slice_get (disagreements_in (given_at split views) [] 1 (outermost_node port.element port.user port.settings).params.dims port.element (given_at split views 0)) 0
disagreements-are split port views =
    let dims = (outermost_node port.element port.user port.settings).params.dims in
    ap (λ (s : PlainSplit). disagreement_of s views) port.is
    ∙ ap (λ (s : PlainSplit). slice_get (disagreements_in (given_at s views) [] 1 dims port.element (given_at s views 0)) 0) (sym port.is)

pub views-of_values-agree : ViewsOfValuesAgree
views-of_values-agree split is carried roots views has =
    let port = has-outermost split is in
    disagreements-are split port views
    ∙ ap (λ (l : List Disagreement). slice_get l 0)
    (port_agrees (given_at split views) port.element (outermost_node port.element port.user port.settings).params.dims roots (shown-port split is carried port roots views has))

pub views-determine-values : ViewsDetermineValues
views-determine-values split is carried one other views has has' =
    let port = has-outermost split is in
    port_one (given_at split views) port.element (outermost_node port.element port.user port.settings).params.dims one other (shown-port split is carried port one views has)
    (shown-port split is carried port other views has')

-- ---- the series that views give

blank-plain : (element : Ltype) (l : List Tree) → IsElement element (blank_of element) → ArePlain element (map (λ (v : Tree). blank_of element) l)
blank-plain element [] is = record { elements = tt; plain = refl }
blank-plain element (v ∷ l) is =
    let rest = blank-plain element l is in
    record {
      elements = (is, rest.elements);
      plain = ap (λ (w : Tree). w ∷ map (set_apart element) (map (λ (v : Tree). blank_of element) l)) (blank-apart element) ∙ ap (λ (l : List Tree). blank_of element ∷ l) rest.plain;
    }

blank-values : (element : Ltype) (dims : ℕ) (shape : Option (List Tree)) → IsPlain element → width_of element ≡ 0 → AreValues element dims (blank_series element dims shape)
blank-values element dims shape plain narrow =
    let blank : Tree → Tree = (λ (v : Tree). blank_of element) in
    record {
      nests = are_nests-in_nest blank dims (some_series shape);
      plain = subst (ArePlain element) (sym (leaves-in_nest blank dims (some_series shape))) (blank-plain element (leaves dims (some_series shape)) (blank-element element plain narrow));
    }

seen-values : (split : PlainSplit) → IsPortSplit split → (views : List (List nests.Tree)) → AreViews split views → (number phys : ℕ) (node : StreamNode)
    → slice_get split.nodes number ≡ Some node → node.phys ≡ Some phys → AreValues node.element node.params.dims (map (unpacked node.element) (view_at phys views))
seen-values split is views are number phys node found seen =
    let one = node-stream split is number phys node found seen in
    let pair = pair-at (IsView split.nodes) split.streams views phys one.one are one.found in
    let stream = stream-node split is phys one.one one.found in
    let view = pair.holds in
    let at : slice_get split.nodes one.one.node ≡ Some node = subst (λ (n : ℕ). slice_get split.nodes n ≡ Some node) (sym one.node_is) found in
    let same : view.node ≡ node = one-found (slice_get split.nodes one.one.node) view.node node view.found at in
    let same' : stream.node ≡ node = one-found (slice_get split.nodes one.one.node) stream.node node stream.found at in
    let deep : HaveDepth node.params.dims (trees_of pair.other) =
    subst (λ (d : ℕ). HaveDepth d (trees_of pair.other)) (ap (λ p. p.dims) stream.params ∙ ap (λ (n : StreamNode). n.params.dims) same') view.depth in
    let words : HaveWords node.element (trees_of pair.other) = subst (λ (n : StreamNode). HaveWords n.element (trees_of pair.other)) same view.words in
    subst (λ (v : List nests.Tree). AreValues node.element node.params.dims (map (unpacked node.element) v)) (sym (view-found views phys pair.other pair.found))
    (view-values node.element node.params.dims pair.other deep words)

pub given-values : (split : PlainSplit) → IsPortSplit split → uncarried_of split ≡ None → (views : List (List nests.Tree)) → AreViews split views → (number : ℕ) (node : StreamNode)
    → slice_get split.nodes number ≡ Some node → AreValues node.element node.params.dims (given_at split views number)
given-values split is carried views are number node found = by_phys node.phys refl
  where
    given : IsGiven views (given_at split views) number node
    given = given-nodes split is views number node found

    by_phys : (o : Option ℕ) → node.phys ≡ o → AreValues node.element node.params.dims (given_at split views number)
    by_phys None unseen =
        let child = carried-child split is carried number node found unseen in
        let elements = all-at HasElements split.nodes number node (nodes_have_elements split is) found in
        subst (AreValues node.element node.params.dims) (sym (given.unseen unseen))
        (blank-values node.element node.params.dims (first_carried (given_at split views) (suc number) node.element) elements.plain child.narrow)
    by_phys (Some phys) seen = subst (AreValues node.element node.params.dims) (sym (given.seen phys seen)) (seen-values split is views are number phys node found seen)

-- ---- a value that shows the series has the views

-- the series of each node, where the first root's is put in its place
pub port-shown : (element user : Ltype) (settings : Settings) (given : ℕ → List Tree) (roots : List (List Tree))
    → PortShows given element (outermost_node element user settings).params.dims roots → HoldFrom (IsShownNode given) 0 (series_of_nodes (nodes_of (stream element user settings)) roots)
port-shown element user settings given roots shows =
    subst (λ (l : List (List Tree)). HoldFrom (IsShownNode given) 0 (series_of_nodes (nodes_of (stream element user settings)) l)) (sym shows.whole) (
      record { given_is = shows.shown_as.root; elements = shows.shown_as.elements; nested = shows.shown_as.nests; shows = shows.shown_as.inside },
      each-shown given 1 (outermost_node element user settings).params.dims element shows.series shows.more [] shows.shown_as.inside shows.others,
    )

port-fits : (element user : Ltype) (settings : Settings) (given : ℕ → List Tree) (roots : List (List Tree))
    → PortShows given element (outermost_node element user settings).params.dims roots → fits_split (split_of (stream element user settings)) roots ≡ true
port-fits element user settings given roots shows =
    let first = outermost_node element user settings in
    let nodes = nodes_of (stream element user settings) in
    let dims = first.params.dims in
    ap (λ (l : List ℕ). fit_roots nodes l roots) (roots_in_order element user settings)
    ∙ ap (fit_roots nodes (0 ∷ roots_in 1 element)) shows.whole
    ∙ both (fits_series (Some first) shows.series) (fit_roots nodes (roots_in 1 element) shows.more) (root-fits given 0 element dims shows.series shows.shown_as)
    (ap (λ (l : List ℕ). fit_roots nodes l shows.more) (sym (append-nil (roots_in 1 element)))
    ∙ roots-fit given nodes [] (place_inside outermost_place 0 settings) 1 ((if is_physical element user settings then 1 else 0) + 0) element dims [] shows.more [] refl
    (nodes-from element user settings) shows.others refl)
  where
    both : (a b : Bool) → a ≡ true → b ≡ true → (a && b) ≡ true
    both true b e f = f
    both false b e f = cc

pub has-views : (split : PlainSplit) → IsPortSplit split → (port : HasOutermost split) (roots : List (List Tree)) (views : List (List nests.Tree)) → AreViews split views
    → ShowsPort split port roots views → HasViews split roots views
has-views split is port roots views are shows = record { fits = fits; shown = pair-each (IsView split.nodes) (ShowsView all) split.streams views are shows_view }
  where
    all : List NodeSeries
    all = series_of_nodes split.nodes roots

    fits : fits_split split roots ≡ true
    fits = ap (λ (s : PlainSplit). fits_split s roots) port.is ∙ port-fits port.element port.user port.settings (given_at split views) roots shows

    each : HoldFrom (IsShownNode (given_at split views)) 0 all
    each = subst (λ (s : PlainSplit). HoldFrom (IsShownNode (given_at split views)) 0 (series_of_nodes s.nodes roots)) (sym port.is)
        (port-shown port.element port.user port.settings (given_at split views) roots shows)

    shows_view : (k : ℕ) (one : Phys) (view : List nests.Tree) → slice_get split.streams k ≡ Some one → slice_get views k ≡ Some view → IsView split.nodes one view → ShowsView all one view
    shows_view k one view found at is_view =
        let stream = stream-node split is k one found in
        let node = stream.node in
        let series = nodes-have-series split is roots fits one.node node stream.found in
        let shown = HoldFrom-at (IsShownNode (given_at split views)) 0 one.node one.node all series.at (omega arith) each series.found in
        let same : is_view.node ≡ node = one-found (slice_get split.nodes one.node) is_view.node node is_view.found stream.found in
        let deep : HaveDepth series.at.dims (trees_of view) =
        subst (λ (d : ℕ). HaveDepth d (trees_of view)) (ap (λ p. p.dims) stream.params ∙ sym series.dims) is_view.depth in
        let words : HaveWords series.at.element (trees_of view) =
        subst (λ (t : Ltype). HaveWords t (trees_of view)) (ap (λ (n : StreamNode). n.element) same ∙ sym series.element) is_view.words in
        let given = given-nodes split is views one.node node stream.found in
        record {
          node = series.at;
          found = series.found;
          agree = series-agrees series.at.element series.at.dims view series.at.series deep words shown.elements
              (ap (λ (t : Ltype). map (unpacked t) view) series.element
              ∙ ap (map (unpacked node.element)) (sym (view-found views k view at))
              ∙ sym (given.seen k stream.phys) ∙ shown.given_is);
        }

-- ---- views that agree are those of a value

joined-stream : (split : PlainSplit) → IsPortSplit split → uncarried_of split ≡ None → (port : HasOutermost split) (views : List (List nests.Tree)) → AreViews split views
    → disagreements_in (given_at split views) [] 1 (outermost_node port.element port.user port.settings).params.dims port.element (given_at split views 0) ≡ []
    → (roots : List (List Tree)) × ShowsPort split port roots views
joined-stream split is carried port views are none =
    let given = given_at split views in
    let first = outermost_node port.element port.user port.settings in
    let values = subst (λ (s : PlainSplit). (number : ℕ) (node : StreamNode) → slice_get s.nodes number ≡ Some node → AreValues node.element node.params.dims (given number)) port.is
    (given-values split is carried views are) in
    let here = values 0 first refl in
    let inside = series-in given (nodes_of (stream port.element port.user port.settings)) values [] (place_inside outermost_place 0 port.settings) 1
    ((if is_physical port.element port.user port.settings then 1 else 0) + 0) port.element first.params.dims refl (nodes-from port.element port.user port.settings) in
    let joined = port_joined given port.element first.params.dims here.nests here.plain inside none in
    (joined.roots, joined.are)

no-first : (l : List Disagreement) → slice_get l 0 ≡ None → l ≡ []
no-first [] is = refl
no-first (x ∷ l) is = cc

pub agreeing-views-have_values : AgreeingViewsHaveValues
agreeing-views-have_values split is carried views are none =
    let port = has-outermost split is in
    let joined = joined-stream split is carried port views are (no-first _ (sym (disagreements-are split port views) ∙ none)) in
    record { roots = joined.0; has = has-views split is port joined.0 views are joined.1 }
