-- The roots of a value are the series of its root nodes.
use Rattle.std.proofs.Common.{inl, inr, ◌≡◌, ◌∙◌, ◌≤◌, ℕ, suc, ◌+◌, Bool, true, false, List, [], ◌∷◌, ◌++◌, length, drop, slice_get, Option, Some, None, refl, sym, ap, subst, arith, append_assoc}
use Rattle.std.specs.Prelude.{◌||◌, if◌then◌else◌, is_some, not}
use Rattle.std.proofs.lemmas.List.{append-nil, drop-drop, length-drop, length-map}
use Rattle.logical_types.specs.Synchronicity.{is_apart}
use Rattle.logical_types.specs.Tree.{Ltype, Parts, Settings, stream}
use Rattle.logical_types.specs.Tree as types
use Rattle.type_split.specs.Nodes.{StreamNode, is_physical, nodes_in, nodes_in_parts, nodes_of, number_of_physical, number_of_streams, outermost_place, place_inside}
use Rattle.type_split.specs.Streams.{IsPortSplit, PlainSplit, split_of}
use Rattle.type_split.proofs.CountLemmas.{nodes_in-length}
use Rattle.type_split.specs.Standing.{roots_in}
use Rattle.type_split.proofs.StandingLemmas.{roots_in_order}
use Rattle.nest_shape.specs.Tree as nests
use Rattle.logical_value.specs.Fits.{fit_roots, fits_split}
use Rattle.logical_value.specs.Tree.{Tree}
use Rattle.value_views.specs.Filling.{AreFilled, HasFilled, is_root, root_series}
use Rattle.value_views.specs.Giving.{CanJoin}
use Rattle.value_views.specs.Joining.{HasViews}
use Rattle.value_views.specs.Series.{NodeSeries, dims_inside, first_part, first_series, number_of_roots, other_parts, replaced, roots_behind, roots_of_parts, series_in, series_in_parts, series_inside, series_of_nodes}
use Rattle.value_views.specs.Way.{type_of_node, type_of_series}
use Rattle.value_views.specs.Words.{given_at, given_of_nodes}
use Rattle.value_views.proofs.FillLemmas.{SeriesInside, series-stand}
use Rattle.value_views.proofs.FitsLemmas.{drop-behind, nodes-have-series}
use Rattle.value_views.proofs.GivenLemmas.{HoldFrom, HoldFrom-at}
use Rattle.value_views.proofs.JoinLemmas.{HasOutermost, fit-length, has-outermost, none-left, one-found, port-shown, roots_in-length, shown-port}
use Rattle.value_views.proofs.NodeLemmas.{Place, nodes_inside, outermost_node, types-of_nodes}
use Rattle.value_views.proofs.SeriesLemmas.{series_in-length}
use Rattle.value_views.proofs.TiedLemmas.{IsShownNode, behind-apart, behind-long, behind-tied, first-whole, inside-apart, some-root}
use Rattle.value_views.proofs.ValueLemmas.{bool_is}

root_series-append : (nodes others : List StreamNode) (series more : List NodeSeries) → length nodes ≡ length series → root_series (nodes ++ others) (series ++ more) ≡ root_series nodes series ++ root_series others more
root_series-append [] others [] more same = refl
root_series-append [] others (x ∷ series) more same = absurd (omega (arith, same))
root_series-append (n ∷ nodes) others [] more same = absurd (omega (arith, same))
root_series-append (n ∷ nodes) others (x ∷ series) more same = here (is_root n) (root_series-append nodes others series more (omega (arith, same)))
  where
    here : (b : Bool) → root_series (nodes ++ others) (series ++ more) ≡ root_series nodes series ++ root_series others more
        → (if b then x.series ∷ root_series (nodes ++ others) (series ++ more) else root_series (nodes ++ others) (series ++ more))
        ≡ (if b then x.series ∷ root_series nodes series else root_series nodes series) ++ root_series others more
    here true rest = ap (λ l. x.series ∷ l) rest
    here false rest = rest

tied-root : (parent : Option ℕ) (above : ℕ) (apart : Bool) → parent ≡ Some above → (not (is_some parent) || apart) ≡ apart
tied-root None above apart is = cc
tied-root (Some p) above apart is = refl

mutual
  roots-collected : (names : List (List ℕ)) (place : Place) (number physical : ℕ) (ltype : Ltype) (above dims : ℕ) (series : List Tree) (roots : List (List Tree)) → place.parent ≡ Some above
      → number_of_roots ltype ≤ length roots → roots ≡ root_series (nodes_in names place number physical ltype) (series_in dims series roots ltype) ++ drop (number_of_roots ltype) roots
  roots-collected names place number physical types.null above dims series roots is long = refl
  roots-collected names place number physical (types.bits width) above dims series roots is long = refl
  roots-collected names place number physical (types.group parts) above dims series roots is long = roots-collected_parts names place number physical parts above dims series roots is long
  roots-collected names place number physical (types.union parts) above dims series roots is long = roots-collected_parts names place number physical parts above dims series roots is long
  roots-collected names place number physical (types.stream element user settings) above dims series roots is long =
      let sync = settings.sync in
      let inner = dims_inside sync dims settings.dims in
      let s = series_inside sync dims series roots in
      let behind = roots_behind sync roots in
      let within = nodes_in names (place_inside place number settings) (suc number) ((if is_physical element user settings then 1 else 0) + physical) element in
      let deeper = root_series within (series_in inner s behind element) in
      let rest = roots-collected names (place_inside place number settings) (suc number) ((if is_physical element user settings then 1 else 0) + physical) element number inner s behind refl
      (behind-long sync (number_of_roots element) roots long) in
      let left = drop-behind sync (number_of_roots element) roots in
      let whole : behind ≡ deeper ++ drop (number_of_roots (types.stream element user settings)) roots = rest ∙ ap (λ l. deeper ++ l) left in
      let rooted = tied-root place.parent above (is_apart sync) is in
      sym (ap (λ (b : Bool). (if b then s ∷ deeper else deeper) ++ drop (number_of_roots (types.stream element user settings)) roots) rooted
      ∙ elim (bool_is (is_apart sync)) [
        | inl yes' ↦ ap (λ (b : Bool). (if b then s ∷ deeper else deeper) ++ drop (number_of_roots (types.stream element user settings)) roots) yes'
            ∙ ap (λ l. s ∷ l) (sym whole ∙ behind-apart sync roots yes') ∙ ap (λ (x : List Tree). x ∷ drop 1 roots) (inside-apart sync dims series roots yes')
            ∙ sym (first-whole roots (some-root sync (number_of_roots element) roots yes' long))
        | inr no' ↦ ap (λ (b : Bool). (if b then s ∷ deeper else deeper) ++ drop (number_of_roots (types.stream element user settings)) roots) no'
            ∙ sym whole ∙ behind-tied sync roots no'
      ])

  roots-collected_parts : (names : List (List ℕ)) (place : Place) (number physical : ℕ) (parts : Parts) (above dims : ℕ) (series : List Tree) (roots : List (List Tree)) → place.parent ≡ Some above
      → roots_of_parts parts ≤ length roots → roots ≡ root_series (nodes_in_parts names place number physical parts) (series_in_parts dims series roots parts) ++ drop (roots_of_parts parts) roots
  roots-collected_parts names place number physical types.no_parts above dims series roots is long = refl
  roots-collected_parts names place number physical (types.part name ltype more) above dims series roots is long =
      let streams = number_of_streams ltype in
      let n = number_of_roots ltype in
      let one_nodes = nodes_in (names ++ name ∷ []) place number physical ltype in
      let other_nodes = nodes_in_parts names place (streams + number) (number_of_physical ltype + physical) more in
      let one = series_in dims (replaced first_part dims series) roots ltype in
      let other = series_in_parts dims (replaced other_parts dims series) (drop n roots) more in
      let left = length-drop n roots in
      let first = roots-collected (names ++ name ∷ []) place number physical ltype above dims (replaced first_part dims series) roots is (omega (arith, long)) in
      let rest = roots-collected_parts names place (streams + number) (number_of_physical ltype + physical) more above dims (replaced other_parts dims series) (drop n roots) is (omega (arith, long, left)) in
      first ∙ ap (λ l. root_series one_nodes one ++ l) (rest ∙ ap (λ l. root_series other_nodes other ++ l) (drop-drop (roots_of_parts more) n roots))
      ∙ sym (append_assoc (root_series one_nodes one) (root_series other_nodes other) (drop (n + roots_of_parts more) roots))
      ∙ ap (λ l. l ++ drop (n + roots_of_parts more) roots)
      (sym (root_series-append one_nodes other_nodes one other (nodes_in-length (names ++ name ∷ []) place number physical ltype ∙ sym (series_in-length dims (replaced first_part dims series) roots ltype))))

roots-of_stream : (element user : Ltype) (settings : Settings) (roots : List (List Tree)) → fits_split (split_of (stream element user settings)) roots ≡ true
    → root_series (nodes_of (stream element user settings)) (series_of_nodes (nodes_of (stream element user settings)) roots) ≡ roots
roots-of_stream element user settings roots fits =
    let first = outermost_node element user settings in
    let nodes = nodes_of (stream element user settings) in
    let long : length roots ≡ suc (number_of_roots element) =
    fit-length nodes (0 ∷ roots_in 1 element) roots (ap (λ (l : List ℕ). fit_roots nodes l roots) (sym (roots_in_order element user settings)) ∙ fits) ∙ ap suc (roots_in-length 1 element) in
    let left = length-drop 1 roots in
    let behind : length (drop 1 roots) ≡ number_of_roots element = omega (arith, long, left) in
    let rest = roots-collected [] (place_inside outermost_place 0 settings) 1 ((if is_physical element user settings then 1 else 0) + 0) element 0 first.params.dims (first_series roots) (drop 1 roots) refl
    (omega (arith, behind)) in
    let inner = root_series (nodes_inside element user settings) (series_in first.params.dims (first_series roots) (drop 1 roots) element) in
    ap (λ l. first_series roots ∷ l)
    (sym (append-nil inner) ∙ ap (λ l. inner ++ l) (sym (none-left (drop 1 roots) (number_of_roots element) behind)) ∙ sym rest)
    ∙ sym (first-whole roots (omega (arith, long)))

pub roots-collect : (split : PlainSplit) → IsPortSplit split → (roots : List (List Tree)) → fits_split split roots ≡ true → root_series split.nodes (series_of_nodes split.nodes roots) ≡ roots
roots-collect split is roots fits =
    let port = has-outermost split is in
    subst (λ (s : PlainSplit). root_series s.nodes (series_of_nodes s.nodes roots) ≡ roots) (sym port.is)
    (roots-of_stream port.element port.user port.settings roots (ap (λ (s : PlainSplit). fits_split s roots) (sym port.is) ∙ fits))

-- ---- the series of a value with given views

stands-of_stream : (element user : Ltype) (settings : Settings) (roots : List (List Tree)) (k : ℕ) (one : NodeSeries)
    → slice_get (series_of_nodes (nodes_of (stream element user settings)) roots) k ≡ Some one → SeriesInside (series_of_nodes (nodes_of (stream element user settings)) roots) k one
stands-of_stream element user settings roots k one found =
    let dims = (outermost_node element user settings).params.dims in
    let all = series_of_nodes (nodes_of (stream element user settings)) roots in
    let behind : (j : ℕ) (x : NodeSeries) → slice_get (series_in dims (first_series roots) (drop 1 roots) element) j ≡ Some x → slice_get all (j + 1) ≡ Some x =
    (λ j x there. (let same : suc j ≡ j + 1 = omega arith in subst (λ (n : ℕ). slice_get all n ≡ Some x) same there)) in
    HoldFrom-at (SeriesInside all) 0 k k all one (omega arith)
    (record { roots = drop 1 roots; from = behind }, series-stand all 1 dims (first_series roots) (drop 1 roots) element behind) found

pub are-filled : (split : PlainSplit) (views : List (List nests.Tree)) (given : List (List Tree)) (roots : List (List Tree)) → CanJoin split views → given ≡ given_of_nodes split.nodes views
    → length given ≡ length split.nodes → HasViews split roots views → AreFilled split given (series_of_nodes split.nodes roots)
are-filled split views given roots can whole long has = record {
  port = can.port;
  long = sym (length-map all type_of_series) ∙ ap length (sym (types-of_nodes split can.port roots)) ∙ length-map split.nodes type_of_node;
  long_given = long;
  element = λ k node one found there. (let s = nodes-have-series split can.port roots has.fits k node found in
      ap (λ (n : NodeSeries). n.element) (one-found (slice_get all k) one s.at there s.found) ∙ s.element);
  dims = λ k node one found there. (let s = nodes-have-series split can.port roots has.fits k node found in
      ap (λ (n : NodeSeries). n.dims) (one-found (slice_get all k) one s.at there s.found) ∙ s.dims);
  each = λ k one there.
      let shown = HoldFrom-at (IsShownNode series) 0 k k all one (omega arith) each there in
      let inside = stands k one there in
      subst (λ (l : List (List Tree)). HasFilled l all k one) (sym whole)
      (record { given_is = shown.given_is; elements = shown.elements; nested = shown.nested; shows = shown.shows; roots = inside.roots; behind = inside.from });
}
  where
    port : HasOutermost split
    port = has-outermost split can.port

    all : List NodeSeries
    all = series_of_nodes split.nodes roots

    series : ℕ → List Tree
    series = given_at split views

    each : HoldFrom (IsShownNode (given_at split views)) 0 (series_of_nodes split.nodes roots)
    each = subst (λ (s : PlainSplit). HoldFrom (IsShownNode (given_at split views)) 0 (series_of_nodes s.nodes roots)) (sym port.is)
        (port-shown port.element port.user port.settings (given_at split views) roots (shown-port split can.port can.carried port roots views has))

    stands : (k : ℕ) (one : NodeSeries) → slice_get (series_of_nodes split.nodes roots) k ≡ Some one → SeriesInside (series_of_nodes split.nodes roots) k one
    stands = subst (λ (s : PlainSplit). (k : ℕ) (one : NodeSeries) → slice_get (series_of_nodes s.nodes roots) k ≡ Some one → SeriesInside (series_of_nodes s.nodes roots) k one) (sym port.is)
        (stands-of_stream port.element port.user port.settings roots)
