-- The series of a value's nodes, where views give the same series: the value is that of the series, and the other way.
use Rattle.std.proofs.Common.{inl, inr, ◌≡◌, ◌∙◌, ◌≤◌, ℕ, suc, ◌+◌, Bool, true, false, cond, List, [], ◌∷◌, ◌++◌, length, map, drop, slice_get, refl, sym, ap, subst, arith, append_assoc}
use Rattle.std.specs.Prelude.{if◌then◌else◌, ◌&&◌, Option, Some, None}
use Rattle.std.proofs.lemmas.List.{drop-drop, length-drop}
use Rattle.logical_types.specs.Faults.{effective_dims}
use Rattle.logical_types.specs.Synchronicity.{is_apart}
use Rattle.logical_types.specs.Tree.{Ltype, Parts, Settings, stream}
use Rattle.logical_types.specs.Tree as types
use Rattle.logical_types.specs.Width.{width_of}
use Rattle.logical_types.specs.declared.ltype.Sync.{Sync}
use Rattle.logical_types.specs.declared.ltype.Sync.TheVariants as syncs
use Rattle.type_split.specs.Carried.{has_carried}
use Rattle.type_split.specs.Nodes.{StreamNode, is_physical, nodes_in, nodes_in_parts, node_at, number_of_physical, number_of_streams, place_inside}
use Rattle.type_split.specs.Standing.{AreFrom, roots_in, roots_in_parts}
use Rattle.type_split.proofs.StandingLemmas.{AreFrom-inside, AreFrom-part, AreFrom-parts}
use Rattle.logical_value.specs.Element.{IsElement, set_apart}
use Rattle.logical_value.specs.Fits.{all_pass, is_nest, stands_apart, fits_element, fits_series, fit_roots}
use Rattle.logical_value.specs.Tree.{Tree, trees_of}
use Rattle.logical_value.proofs.FitLemmas.{fits_are_elements}
use Rattle.value_views.specs.Comparing.{tied_series}
use Rattle.value_views.specs.Series.{leaves, replaced, first_part, other_parts, dims_inside, series_inside, roots_behind, first_series, number_of_roots, roots_of_parts, NodeSeries, series_in, series_in_parts}
use Rattle.value_views.specs.Shown.{AreNests, Each, Elements, Shows, ShowsParts, IsShown, RootsShow, RootsOfPartsShow, AreSeries, AreSeriesOfParts}
use Rattle.value_views.specs.Words.{blank_series, first_carried, in_nest}
use Rattle.value_views.proofs.BlankLemmas.{blank_node}
use Rattle.value_views.proofs.FitNestLemmas.{Fit, AreNestsOf, all_of_each, all_stand, both, each_map, fields_fit, fit_nests, fits_of_nests, nests_fit, variants_fit}
use Rattle.value_views.proofs.FitsLemmas.{drop-behind}
use Rattle.value_views.proofs.GivenLemmas.{HoldFrom, HoldFrom-append}
use Rattle.value_views.proofs.NestLemmas.{are_nests-replaced, leaves-replaced}
use Rattle.value_views.proofs.NodeLemmas.{Place, dims-are}
use Rattle.value_views.proofs.SeriesLemmas.{found-back, found-front, series_in-length}
use Rattle.value_views.proofs.ShownLemmas.{nests_of_shown}
use Rattle.value_views.proofs.ValueLemmas.{bool_is}
use Rattle.value_views.proofs.WordLemmas.{AreValues}

-- ---- the series inside a Stream

pub inside-tied : (sync : Sync) (dims : ℕ) (series : List Tree) (roots : List (List Tree)) → is_apart sync ≡ false → series_inside sync dims series roots ≡ tied_series sync dims series
inside-tied syncs.Sync dims series roots is = refl
inside-tied syncs.Flatten dims series roots is = refl
inside-tied syncs.Desync dims series roots is = cc
inside-tied syncs.FlatDesync dims series roots is = cc

pub behind-tied : (sync : Sync) (roots : List (List Tree)) → is_apart sync ≡ false → roots_behind sync roots ≡ roots
behind-tied syncs.Sync roots is = refl
behind-tied syncs.Flatten roots is = refl
behind-tied syncs.Desync roots is = cc
behind-tied syncs.FlatDesync roots is = cc

pub behind-apart : (sync : Sync) (roots : List (List Tree)) → is_apart sync ≡ true → roots_behind sync roots ≡ drop 1 roots
behind-apart syncs.Sync roots is = cc
behind-apart syncs.Flatten roots is = cc
behind-apart syncs.Desync roots is = refl
behind-apart syncs.FlatDesync roots is = refl

pub inside-apart : (sync : Sync) (dims : ℕ) (series : List Tree) (roots : List (List Tree)) → is_apart sync ≡ true → series_inside sync dims series roots ≡ first_series roots
inside-apart syncs.Sync dims series roots is = cc
inside-apart syncs.Flatten dims series roots is = cc
inside-apart syncs.Desync dims series roots is = refl
inside-apart syncs.FlatDesync dims series roots is = refl

pub first-whole : (roots : List (List Tree)) → 1 ≤ length roots → roots ≡ first_series roots ∷ drop 1 roots
first-whole [] some = absurd (omega (arith, some))
first-whole (series ∷ more) some = refl

pub behind-long : (sync : Sync) (n : ℕ) (roots : List (List Tree)) → cond (is_apart sync) 1 0 + n ≤ length roots → n ≤ length (roots_behind sync roots)
behind-long syncs.Sync n roots long = omega (arith, long)
behind-long syncs.Flatten n roots long = omega (arith, long)
behind-long syncs.Desync n roots long = (let less = length-drop 1 roots in omega (arith, long, less))
behind-long syncs.FlatDesync n roots long = (let less = length-drop 1 roots in omega (arith, long, less))

pub some-root : (sync : Sync) (n : ℕ) (roots : List (List Tree)) → is_apart sync ≡ true → cond (is_apart sync) 1 0 + n ≤ length roots → 1 ≤ length roots
some-root syncs.Sync n roots is long = cc
some-root syncs.Flatten n roots is long = cc
some-root syncs.Desync n roots is long = omega (arith, long)
some-root syncs.FlatDesync n roots is long = omega (arith, long)

-- ---- nodes whose series are given

-- a node without a physical stream
pub record IsUnseen (given : ℕ → List Tree) (number : ℕ) (node : StreamNode) : Type 0 where
  pub narrow : width_of node.element ≡ 0
  pub has : has_carried node.element ≡ true
  pub is : given number ≡ blank_series node.element node.params.dims (first_carried given (suc number) node.element)

-- the series of a node fits, and is the given one where its Streams are apart
pub record IsTied (given : ℕ → List Tree) (all : List NodeSeries) (number : ℕ) (node : StreamNode) : Type 0 where
  pub fit : (at : NodeSeries) → slice_get all number ≡ Some at → all_pass (is_nest (fits_element node.element) node.params.dims) (trees_of at.series) ≡ true
  pub seen : (at : NodeSeries) → slice_get all number ≡ Some at → (phys : ℕ) → node.phys ≡ Some phys
      → given number ≡ map (in_nest (set_apart node.element) node.params.dims) at.series
  pub unseen : node.phys ≡ None → IsUnseen given number node

-- from this number on the nodes have these series
abbrev pub NodesFrom : List NodeSeries → ℕ → List NodeSeries → Type 0
NodesFrom all number some = (k : ℕ) (x : NodeSeries) → slice_get some k ≡ Some x → slice_get all (k + number) ≡ Some x

each-passes : (test : Tree → Bool) (values : List Tree) → all_pass test (trees_of values) ≡ true → Each (λ v. test v ≡ true) values
each-passes test [] pass = tt
each-passes test (value ∷ values) pass = let here = both (test value) (all_pass test (trees_of values)) pass in (here.0, each-passes test values here.1)

pub series-nests : (element : Ltype) (dims : ℕ) (series : List Tree) → all_pass (is_nest (fits_element element) dims) (trees_of series) ≡ true → AreNestsOf (fits_element element) dims series
series-nests element dims series pass = nests_fit (fits_element element) dims series (each-passes (is_nest (fits_element element) dims) series pass)

pub fit-elements : (ltype : Ltype) (values : List Tree) → Fit ltype values → Elements ltype values
fit-elements ltype values fit = each_map (λ v. fits_element ltype v ≡ true) (IsElement ltype) (fits_are_elements ltype) values fit

-- the first of the nodes
pub node-first : (all : List NodeSeries) (number : ℕ) (at : NodeSeries) (more : List NodeSeries) → NodesFrom all number (at ∷ more) → slice_get all number ≡ Some at
node-first all number at more from = (let same : 0 + number ≡ number = omega arith in subst (λ (n : ℕ). slice_get all n ≡ Some at) same (from 0 at refl))

pub nodes-behind : (all : List NodeSeries) (number : ℕ) (at : NodeSeries) (more : List NodeSeries) → NodesFrom all number (at ∷ more) → NodesFrom all (suc number) more
nodes-behind all number at more from = λ k x found. (let same : suc k + number ≡ k + suc number = omega arith in subst (λ (n : ℕ). slice_get all n ≡ Some x) same (from (suc k) x found))

pub nodes-front : (all : List NodeSeries) (number : ℕ) (one other : List NodeSeries) → NodesFrom all number (one ++ other) → NodesFrom all number one
nodes-front all number one other from = λ k x found. from k x (found-front one other k x found)

pub nodes-back : (all : List NodeSeries) (number count : ℕ) (one other : List NodeSeries) → length one ≡ count → NodesFrom all number (one ++ other) → NodesFrom all (count + number) other
nodes-back all number count one other long from = λ k x found.
    (let same : (k + length one) + number ≡ k + (count + number) = omega (arith, long) in
    subst (λ (n : ℕ). slice_get all n ≡ Some x) same (from (k + length one) x (found-back one other k (k + length one) x refl found)))

-- the given series of a node is its own with its Streams apart
pub node-given : (given : ℕ → List Tree) (all : List NodeSeries) (number : ℕ) (node : StreamNode) (seen : Bool) (physical dims : ℕ) (series : List Tree) → IsTied given all number node
    → slice_get all number ≡ Some (record { element = node.element; dims = dims; series = series }) → node.params.dims ≡ dims → node.phys ≡ cond seen (Some physical) None
    → Elements node.element (leaves dims series) → Shows given (suc number) dims node.element series → given number ≡ map (in_nest (set_apart node.element) dims) series
node-given given all number node true physical dims series tied found deep has elements shows =
    tied.seen (record { element = node.element; dims = dims; series = series }) found physical has ∙ ap (λ (d : ℕ). map (in_nest (set_apart node.element) d) series) deep
node-given given all number node false physical dims series tied found deep has elements shows =
    let unseen = tied.unseen has in
    unseen.is ∙ ap (λ (d : ℕ). blank_series node.element d (first_carried given (suc number) node.element)) deep
    ∙ sym (blank_node given (suc number) dims node.element series unseen.narrow unseen.has elements shows)

-- ---- a value that fits shows the given series

-- the nodes of a type have the given series, and so have the roots in it
pub record IsShownIn (given : ℕ → List Tree) (number dims : ℕ) (ltype : Ltype) (series : List Tree) (roots : List (List Tree)) : Type 0 where
  pub shows : Shows given number dims ltype series
  pub roots_show : RootsShow given number dims ltype roots (drop (number_of_roots ltype) roots)

record AreShownIn (given : ℕ → List Tree) (number dims : ℕ) (parts : Parts) (series : List Tree) (roots : List (List Tree)) : Type 0 where
  shows : ShowsParts given number dims parts series
  roots_show : RootsOfPartsShow given number dims parts roots (drop (roots_of_parts parts) roots)

-- the parts behind the first, and all of them
parts-shown : (given : ℕ → List Tree) (number dims : ℕ) (name : List ℕ) (ltype : Ltype) (more : Parts) (series : List Tree) (roots : List (List Tree))
    → IsShownIn given number dims ltype (replaced first_part dims series) roots
    → AreShownIn given (number_of_streams ltype + number) dims more (replaced other_parts dims series) (drop (number_of_roots ltype) roots)
    → AreShownIn given number dims (types.part name ltype more) series roots
parts-shown given number dims name ltype more series roots first rest = record {
  shows = (first.shows, rest.shows);
  roots_show = record {
    mid = drop (number_of_roots ltype) roots;
    first = first.roots_show;
    second = subst (RootsOfPartsShow given (number_of_streams ltype + number) dims more (drop (number_of_roots ltype) roots)) (drop-drop (roots_of_parts more) (number_of_roots ltype) roots) rest.roots_show;
  };
}

-- a Stream, from what stands inside it
stream-shown : (given : ℕ → List Tree) (number dims : ℕ) (element user : Ltype) (settings : Settings) (series : List Tree) (roots : List (List Tree))
    → Fit (types.stream element user settings) (leaves dims series) → number_of_roots (types.stream element user settings) ≤ length roots
    → IsShown given number element (dims_inside settings.sync dims settings.dims) (series_inside settings.sync dims series roots)
    → RootsShow given (suc number) (dims_inside settings.sync dims settings.dims) element (roots_behind settings.sync roots) (drop (number_of_roots element) (roots_behind settings.sync roots))
    → IsShownIn given number dims (types.stream element user settings) series roots
stream-shown given number dims element user settings series roots fit long is others =
    let sync = settings.sync in
    let inner = dims_inside sync dims settings.dims in
    let rest = drop (number_of_roots (types.stream element user settings)) roots in
    let shown_others : RootsShow given (suc number) inner element (roots_behind sync roots) rest =
    subst (RootsShow given (suc number) inner element (roots_behind sync roots)) (drop-behind sync (number_of_roots element) roots) others in
    record {
      shows = (
        λ apart_is. all_stand (leaves dims series)
            (subst (λ (b : Bool). Each (λ v. (if b then stands_apart v else is_nest (fits_element element) settings.dims v) ≡ true) (leaves dims series)) apart_is fit),
        λ tied.
            let same = inside-tied sync dims series roots tied in (
              subst (AreNests inner) same is.nests,
              is.root ∙ ap (map (in_nest (set_apart element) inner)) same,
              subst (λ (s : List Tree). Elements element (leaves inner s)) same is.elements,
              subst (Shows given (suc number) inner element) same is.inside,
            ),
      );
      roots_show = (
        λ apart_is.
            let same = inside-apart sync dims series roots apart_is in
            record {
              series = first_series roots;
              more = drop 1 roots;
              whole = first-whole roots (some-root sync (number_of_roots element) roots apart_is long);
              shown_as = subst (IsShown given number element inner) same is;
              others = subst (λ (l : List (List Tree)). RootsShow given (suc number) inner element l rest) (behind-apart sync roots apart_is) shown_others;
            },
        λ tied. subst (λ (l : List (List Tree)). RootsShow given (suc number) inner element l rest) (behind-tied sync roots tied) shown_others,
      );
    }

mutual
  pub shown-in : (given : ℕ → List Tree) (all : List NodeSeries) (nodes : List StreamNode) → ((n : ℕ) (node : StreamNode) → slice_get nodes n ≡ Some node → IsTied given all n node)
      → (names : List (List ℕ)) (place : Place) (number physical : ℕ) (ltype : Ltype) (dims : ℕ) (series : List Tree) (roots : List (List Tree)) → place.around.dims ≡ dims
      → AreFrom nodes number (nodes_in names place number physical ltype) → NodesFrom all number (series_in dims series roots ltype) → AreNests dims series → Fit ltype (leaves dims series)
      → number_of_roots ltype ≤ length roots → IsShownIn given number dims ltype series roots
  shown-in given all nodes tied names place number physical types.null dims series roots around from next nested fit long = record { shows = tt; roots_show = refl }
  shown-in given all nodes tied names place number physical (types.bits width) dims series roots around from next nested fit long = record { shows = tt; roots_show = refl }
  shown-in given all nodes tied names place number physical (types.group parts) dims series roots around from next nested fit long =
      let are = fields-shown given all nodes tied names place number physical parts dims series roots around from next nested fit long in record { shows = are.shows; roots_show = are.roots_show }
  shown-in given all nodes tied names place number physical (types.union parts) dims series roots around from next nested fit long =
      let are = variants-shown given all nodes tied names place number physical parts dims series roots around from next nested fit long in record { shows = are.shows; roots_show = are.roots_show }
  shown-in given all nodes tied names place number physical (types.stream element user settings) dims series roots around from next nested fit long =
      let sync = settings.sync in
      let inner = dims_inside sync dims settings.dims in
      let s = series_inside sync dims series roots in
      let at : NodeSeries = record { element = element; dims = inner; series = s } in
      let more = series_in inner s (roots_behind sync roots) element in
      let same : effective_dims settings.dims sync place.around.dims ≡ inner = dims-are sync place.around.dims dims settings.dims around in
      let inside = AreFrom-inside nodes names place number physical element user settings from in
      let node = node_at names place number physical element user settings in
      let here = tied number node inside.0 in
      let found = node-first all number at more next in
      let are = series-nests element inner s (subst (λ (d : ℕ). all_pass (is_nest (fits_element element) d) (trees_of s) ≡ true) same (here.fit at found)) in
      let elements = fit-elements element (leaves inner s) are.inner in
      let rest = shown-in given all nodes tied names (place_inside place number settings) (suc number) ((if is_physical element user settings then 1 else 0) + physical) element inner s
      (roots_behind sync roots) same inside.1 (nodes-behind all number at more next) are.nests are.inner (behind-long sync (number_of_roots element) roots long) in
      stream-shown given number dims element user settings series roots fit long
      (record {
        nests = are.nests;
        root = node-given given all number node (is_physical element user settings) physical inner s here found same refl elements rest.shows;
        elements = elements;
        inside = rest.shows;
      })
      rest.roots_show

  fields-shown : (given : ℕ → List Tree) (all : List NodeSeries) (nodes : List StreamNode) → ((n : ℕ) (node : StreamNode) → slice_get nodes n ≡ Some node → IsTied given all n node)
      → (names : List (List ℕ)) (place : Place) (number physical : ℕ) (parts : Parts) (dims : ℕ) (series : List Tree) (roots : List (List Tree)) → place.around.dims ≡ dims
      → AreFrom nodes number (nodes_in_parts names place number physical parts) → NodesFrom all number (series_in_parts dims series roots parts) → AreNests dims series
      → Fit (types.group parts) (leaves dims series) → roots_of_parts parts ≤ length roots → AreShownIn given number dims parts series roots
  fields-shown given all nodes tied names place number physical types.no_parts dims series roots around from next nested fit long = record { shows = tt; roots_show = refl }
  fields-shown given all nodes tied names place number physical (types.part name ltype more) dims series roots around from next nested fit long =
      let streams = number_of_streams ltype in
      let n = number_of_roots ltype in
      let p = fields_fit name ltype more (leaves dims series) fit in
      let one = series_in dims (replaced first_part dims series) roots ltype in
      let other = series_in_parts dims (replaced other_parts dims series) (drop n roots) more in
      let left = length-drop n roots in
      parts-shown given number dims name ltype more series roots
      (shown-in given all nodes tied (names ++ name ∷ []) place number physical ltype dims (replaced first_part dims series) roots around
      (AreFrom-part nodes names place number physical name ltype more from) (nodes-front all number one other next) (are_nests-replaced first_part dims series)
      (subst (Fit ltype) (sym (leaves-replaced first_part dims series)) p.firsts) (omega (arith, long)))
      (fields-shown given all nodes tied names place (streams + number) (number_of_physical ltype + physical) more dims (replaced other_parts dims series) (drop n roots) around
      (AreFrom-parts nodes names place number physical name ltype more from)
      (nodes-back all number streams one other (series_in-length dims (replaced first_part dims series) roots ltype) next) (are_nests-replaced other_parts dims series)
      (subst (Fit (types.group more)) (sym (leaves-replaced other_parts dims series)) p.rests) (omega (arith, long, left)))

  variants-shown : (given : ℕ → List Tree) (all : List NodeSeries) (nodes : List StreamNode) → ((n : ℕ) (node : StreamNode) → slice_get nodes n ≡ Some node → IsTied given all n node)
      → (names : List (List ℕ)) (place : Place) (number physical : ℕ) (parts : Parts) (dims : ℕ) (series : List Tree) (roots : List (List Tree)) → place.around.dims ≡ dims
      → AreFrom nodes number (nodes_in_parts names place number physical parts) → NodesFrom all number (series_in_parts dims series roots parts) → AreNests dims series
      → Fit (types.union parts) (leaves dims series) → roots_of_parts parts ≤ length roots → AreShownIn given number dims parts series roots
  variants-shown given all nodes tied names place number physical types.no_parts dims series roots around from next nested fit long = record { shows = tt; roots_show = refl }
  variants-shown given all nodes tied names place number physical (types.part name ltype more) dims series roots around from next nested fit long =
      let streams = number_of_streams ltype in
      let n = number_of_roots ltype in
      let p = variants_fit name ltype more (leaves dims series) fit in
      let one = series_in dims (replaced first_part dims series) roots ltype in
      let other = series_in_parts dims (replaced other_parts dims series) (drop n roots) more in
      let left = length-drop n roots in
      parts-shown given number dims name ltype more series roots
      (shown-in given all nodes tied (names ++ name ∷ []) place number physical ltype dims (replaced first_part dims series) roots around
      (AreFrom-part nodes names place number physical name ltype more from) (nodes-front all number one other next) (are_nests-replaced first_part dims series)
      (subst (Fit ltype) (sym (leaves-replaced first_part dims series)) p.firsts) (omega (arith, long)))
      (variants-shown given all nodes tied names place (streams + number) (number_of_physical ltype + physical) more dims (replaced other_parts dims series) (drop n roots) around
      (AreFrom-parts nodes names place number physical name ltype more from)
      (nodes-back all number streams one other (series_in-length dims (replaced first_part dims series) roots ltype) next) (are_nests-replaced other_parts dims series)
      (subst (Fit (types.union more)) (sym (leaves-replaced other_parts dims series)) p.rests) (omega (arith, long, left)))

-- ---- the series of a value that shows given series

-- the roots behind a type
mutual
  roots-rest : (given : ℕ → List Tree) (number dims : ℕ) (ltype : Ltype) (roots rest : List (List Tree)) → RootsShow given number dims ltype roots rest → drop (number_of_roots ltype) roots ≡ rest
  roots-rest given number dims types.null roots rest are = are
  roots-rest given number dims (types.bits width) roots rest are = are
  roots-rest given number dims (types.group parts) roots rest are = roots-rest_parts given number dims parts roots rest are
  roots-rest given number dims (types.union parts) roots rest are = roots-rest_parts given number dims parts roots rest are
  roots-rest given number dims (types.stream element user settings) roots rest are =
      let sync = settings.sync in
      let inner = dims_inside sync dims settings.dims in
      let n = number_of_roots element in
      sym (drop-behind sync n roots) ∙ elim (bool_is (is_apart sync)) [
        | inl is ↦ (let first = are.0 is in
            ap (drop n) (behind-apart sync roots is ∙ ap (drop 1) first.whole) ∙ roots-rest given (suc number) inner element first.more rest first.others)
        | inr tied ↦ ap (drop n) (behind-tied sync roots tied) ∙ roots-rest given (suc number) inner element roots rest (are.1 tied)
      ]

  roots-rest_parts : (given : ℕ → List Tree) (number dims : ℕ) (parts : Parts) (roots rest : List (List Tree)) → RootsOfPartsShow given number dims parts roots rest
      → drop (roots_of_parts parts) roots ≡ rest
  roots-rest_parts given number dims types.no_parts roots rest are = are
  roots-rest_parts given number dims (types.part name ltype more) roots rest are =
      sym (drop-drop (roots_of_parts more) (number_of_roots ltype) roots)
      ∙ ap (drop (roots_of_parts more)) (roots-rest given number dims ltype roots are.mid are.first)
      ∙ roots-rest_parts given (number_of_streams ltype + number) dims more are.mid rest are.second

-- a node's series is the given one where its Streams are apart
pub record IsShownNode (given : ℕ → List Tree) (number : ℕ) (node : NodeSeries) : Type 0 where
  pub given_is : given number ≡ map (in_nest (set_apart node.element) node.dims) node.series
  pub elements : Elements node.element (leaves node.dims node.series)
  pub nested : AreNests node.dims node.series
  pub shows : Shows given (suc number) node.dims node.element node.series

-- the series inside a Stream is shown, and so are the roots behind it
record IsShownStream (given : ℕ → List Tree) (number dims : ℕ) (element : Ltype) (series : List Tree) (roots rest : List (List Tree)) : Type 0 where
  node : IsShownNode given number (record { element = element; dims = dims; series = series })
  shows : Shows given (suc number) dims element series
  others : RootsShow given (suc number) dims element roots rest

shown-stream : (given : ℕ → List Tree) (number dims : ℕ) (element user : Ltype) (settings : Settings) (series : List Tree) (roots rest : List (List Tree))
    → Shows given number dims (types.stream element user settings) series → RootsShow given number dims (types.stream element user settings) roots rest
    → IsShownStream given number (dims_inside settings.sync dims settings.dims) element (series_inside settings.sync dims series roots) (roots_behind settings.sync roots) rest
shown-stream given number dims element user settings series roots rest shows are =
    let sync = settings.sync in
    let inner = dims_inside sync dims settings.dims in
    elim (bool_is (is_apart sync)) [
      | inl is ↦
          let first = are.0 is in
          let same : first.series ≡ series_inside sync dims series roots = ap first_series (sym first.whole) ∙ sym (inside-apart sync dims series roots is) in
          let behind : first.more ≡ roots_behind sync roots = ap (drop 1) (sym first.whole) ∙ sym (behind-apart sync roots is) in
          subst (λ (s : List Tree). IsShownStream given number inner element s (roots_behind sync roots) rest) same
          (subst (λ (l : List (List Tree)). IsShownStream given number inner element first.series l rest) behind
          (record {
            node = record { given_is = first.shown_as.root; elements = first.shown_as.elements; nested = first.shown_as.nests; shows = first.shown_as.inside };
            shows = first.shown_as.inside;
            others = first.others;
          }))
      | inr tied ↦
          let here = shows.1 tied in
          subst (λ (s : List Tree). IsShownStream given number inner element s (roots_behind sync roots) rest) (sym (inside-tied sync dims series roots tied))
          (subst (λ (l : List (List Tree)). IsShownStream given number inner element (tied_series sync dims series) l rest) (sym (behind-tied sync roots tied))
          (record { node = record { given_is = here.1; elements = here.2; nested = here.0; shows = here.3 }; shows = here.3; others = are.1 tied }))
    ]

mutual
  pub each-shown : (given : ℕ → List Tree) (number dims : ℕ) (ltype : Ltype) (series : List Tree) (roots rest : List (List Tree)) → Shows given number dims ltype series
      → RootsShow given number dims ltype roots rest → HoldFrom (IsShownNode given) number (series_in dims series roots ltype)
  each-shown given number dims types.null series roots rest shows are = tt
  each-shown given number dims (types.bits width) series roots rest shows are = tt
  each-shown given number dims (types.group parts) series roots rest shows are = each-shown_parts given number dims parts series roots rest shows are
  each-shown given number dims (types.union parts) series roots rest shows are = each-shown_parts given number dims parts series roots rest shows are
  each-shown given number dims (types.stream element user settings) series roots rest shows are =
      let here = shown-stream given number dims element user settings series roots rest shows are in
      (here.node, each-shown given (suc number) (dims_inside settings.sync dims settings.dims) element (series_inside settings.sync dims series roots) (roots_behind settings.sync roots) rest here.shows here.others)

  each-shown_parts : (given : ℕ → List Tree) (number dims : ℕ) (parts : Parts) (series : List Tree) (roots rest : List (List Tree)) → ShowsParts given number dims parts series
      → RootsOfPartsShow given number dims parts roots rest → HoldFrom (IsShownNode given) number (series_in_parts dims series roots parts)
  each-shown_parts given number dims types.no_parts series roots rest shows are = tt
  each-shown_parts given number dims (types.part name ltype more) series roots rest shows are =
      let streams = number_of_streams ltype in
      let one = series_in dims (replaced first_part dims series) roots ltype in
      let mid = roots-rest given number dims ltype roots are.mid are.first in
      HoldFrom-append (IsShownNode given) number (streams + number) one (series_in_parts dims (replaced other_parts dims series) (drop (number_of_roots ltype) roots) more)
      (ap (λ (n : ℕ). n + number) (sym (series_in-length dims (replaced first_part dims series) roots ltype)))
      (each-shown given number dims ltype (replaced first_part dims series) roots are.mid shows.0 are.first)
      (each-shown_parts given (streams + number) dims more (replaced other_parts dims series) (drop (number_of_roots ltype) roots) rest shows.1
      (subst (λ (l : List (List Tree)). RootsOfPartsShow given (streams + number) dims more l rest) (sym mid) are.second))

-- ---- the value fits

pub root-fits : (given : ℕ → List Tree) (number : ℕ) (element : Ltype) (dims : ℕ) (series : List Tree) → IsShown given number element dims series
    → all_pass (is_nest (fits_element element) dims) (trees_of series) ≡ true
root-fits given number element dims series is =
    all_of_each (is_nest (fits_element element) dims) series
    (fit_nests (fits_element element) dims series is.nests
    (fits_of_nests given (suc number) dims element (leaves dims series) is.elements (nests_of_shown given (suc number) dims element series is.elements is.inside)))

both-pass : (a b : Bool) → a ≡ true → b ≡ true → (a && b) ≡ true
both-pass true b e f = f
both-pass false b e f = cc

apart-root : (apart : Bool) (number : ℕ) → apart ≡ true → cond apart (number ∷ []) [] ≡ number ∷ []
apart-root true number is = refl
apart-root false number is = cc

tied-root : (apart : Bool) (number : ℕ) → apart ≡ false → cond apart (number ∷ []) [] ≡ []
tied-root true number is = cc
tied-root false number is = refl

mutual
  pub roots-fit : (given : ℕ → List Tree) (nodes : List StreamNode) (names : List (List ℕ)) (place : Place) (number physical : ℕ) (ltype : Ltype) (dims : ℕ) (others : List ℕ)
      (roots rest : List (List Tree)) → place.around.dims ≡ dims → AreFrom nodes number (nodes_in names place number physical ltype) → RootsShow given number dims ltype roots rest
      → fit_roots nodes others rest ≡ true → fit_roots nodes (roots_in number ltype ++ others) roots ≡ true
  roots-fit given nodes names place number physical types.null dims others roots rest around from are fit = ap (fit_roots nodes others) are ∙ fit
  roots-fit given nodes names place number physical (types.bits width) dims others roots rest around from are fit = ap (fit_roots nodes others) are ∙ fit
  roots-fit given nodes names place number physical (types.group parts) dims others roots rest around from are fit =
      roots-fit_parts given nodes names place number physical parts dims others roots rest around from are fit
  roots-fit given nodes names place number physical (types.union parts) dims others roots rest around from are fit =
      roots-fit_parts given nodes names place number physical parts dims others roots rest around from are fit
  roots-fit given nodes names place number physical (types.stream element user settings) dims others roots rest around from are fit =
      let sync = settings.sync in
      let inner = dims_inside sync dims settings.dims in
      let same : effective_dims settings.dims sync place.around.dims ≡ inner = dims-are sync place.around.dims dims settings.dims around in
      let inside = AreFrom-inside nodes names place number physical element user settings from in
      let node = node_at names place number physical element user settings in
      let deeper = roots_in (suc number) element in
      let before = (if is_physical element user settings then 1 else 0) + physical in
      elim (bool_is (is_apart sync)) [
        | inl is ↦
            let first = are.0 is in
            let later = roots-fit given nodes names (place_inside place number settings) (suc number) before element inner others first.more rest same inside.1 first.others fit in
            ap (λ (l : List ℕ). fit_roots nodes ((l ++ deeper) ++ others) roots) (apart-root (is_apart sync) number is)
            ∙ ap (fit_roots nodes ((number ∷ deeper) ++ others)) first.whole
            ∙ both-pass (fits_series (slice_get nodes number) first.series) (fit_roots nodes (deeper ++ others) first.more)
            (ap (λ (o : Option StreamNode). fits_series o first.series) inside.0
            ∙ ap (λ (d : ℕ). all_pass (is_nest (fits_element element) d) (trees_of first.series)) same
            ∙ root-fits given number element inner first.series first.shown_as)
            later
        | inr tied ↦
            ap (λ (l : List ℕ). fit_roots nodes ((l ++ deeper) ++ others) roots) (tied-root (is_apart sync) number tied)
            ∙ roots-fit given nodes names (place_inside place number settings) (suc number) before element inner others roots rest same inside.1 (are.1 tied) fit
      ]

  roots-fit_parts : (given : ℕ → List Tree) (nodes : List StreamNode) (names : List (List ℕ)) (place : Place) (number physical : ℕ) (parts : Parts) (dims : ℕ) (others : List ℕ)
      (roots rest : List (List Tree)) → place.around.dims ≡ dims → AreFrom nodes number (nodes_in_parts names place number physical parts) → RootsOfPartsShow given number dims parts roots rest
      → fit_roots nodes others rest ≡ true → fit_roots nodes (roots_in_parts number parts ++ others) roots ≡ true
  roots-fit_parts given nodes names place number physical types.no_parts dims others roots rest around from are fit = ap (fit_roots nodes others) are ∙ fit
  roots-fit_parts given nodes names place number physical (types.part name ltype more) dims others roots rest around from are fit =
      let next = number_of_streams ltype + number in
      ap (λ (l : List ℕ). fit_roots nodes l roots) (append_assoc (roots_in number ltype) (roots_in_parts next more) others)
      ∙ roots-fit given nodes (names ++ name ∷ []) place number physical ltype dims (roots_in_parts next more ++ others) roots are.mid around
      (AreFrom-part nodes names place number physical name ltype more from) are.first
      (roots-fit_parts given nodes names place next (number_of_physical ltype + physical) more dims others are.mid rest around
      (AreFrom-parts nodes names place number physical name ltype more from) are.second fit)

-- ---- given series are series of their nodes

mutual
  pub series-in : (given : ℕ → List Tree) (nodes : List StreamNode) → ((n : ℕ) (node : StreamNode) → slice_get nodes n ≡ Some node → AreValues node.element node.params.dims (given n))
      → (names : List (List ℕ)) (place : Place) (number physical : ℕ) (ltype : Ltype) (dims : ℕ) → place.around.dims ≡ dims
      → AreFrom nodes number (nodes_in names place number physical ltype) → AreSeries given number dims ltype
  series-in given nodes are names place number physical types.null dims around from = tt
  series-in given nodes are names place number physical (types.bits width) dims around from = tt
  series-in given nodes are names place number physical (types.group parts) dims around from = series-in_parts given nodes are names place number physical parts dims around from
  series-in given nodes are names place number physical (types.union parts) dims around from = series-in_parts given nodes are names place number physical parts dims around from
  series-in given nodes are names place number physical (types.stream element user settings) dims around from =
      let sync = settings.sync in
      let inner = dims_inside sync dims settings.dims in
      let same : effective_dims settings.dims sync place.around.dims ≡ inner = dims-are sync place.around.dims dims settings.dims around in
      let inside = AreFrom-inside nodes names place number physical element user settings from in
      let here = subst (λ (d : ℕ). AreValues element d (given number)) same (are number (node_at names place number physical element user settings) inside.0) in (
        here.nests,
        here.plain,
        series-in given nodes are names (place_inside place number settings) (suc number) ((if is_physical element user settings then 1 else 0) + physical) element inner same inside.1,
      )

  series-in_parts : (given : ℕ → List Tree) (nodes : List StreamNode) → ((n : ℕ) (node : StreamNode) → slice_get nodes n ≡ Some node → AreValues node.element node.params.dims (given n))
      → (names : List (List ℕ)) (place : Place) (number physical : ℕ) (parts : Parts) (dims : ℕ) → place.around.dims ≡ dims
      → AreFrom nodes number (nodes_in_parts names place number physical parts) → AreSeriesOfParts given number dims parts
  series-in_parts given nodes are names place number physical types.no_parts dims around from = tt
  series-in_parts given nodes are names place number physical (types.part name ltype more) dims around from = (
    series-in given nodes are (names ++ name ∷ []) place number physical ltype dims around (AreFrom-part nodes names place number physical name ltype more from),
    series-in_parts given nodes are names place (number_of_streams ltype + number) (number_of_physical ltype + physical) more dims around
        (AreFrom-parts nodes names place number physical name ltype more from),
  )
