-- The series of a value's nodes, filled from the last node on.
use Rattle.std.proofs.Common.{inl, inr, ◌≡◌, ◌∙◌, ◌<◌, ◌≤◌, ℕ, zero, suc, ◌+◌, ◌-◌, Bool, true, false, List, [], ◌∷◌, ◌++◌, length, drop, slice_get, Option, Some, None, refl, sym, ap, subst, arith}
use Rattle.std.specs.Prelude.{◌⊎◌, ◌||◌, if◌then◌else◌, is_some, not, reverse}
use Rattle.std.proofs.lemmas.List.{append-nil, reverse-append}
use Rattle.logical_types.specs.Faults.{dims_taken_over, effective_dims}
use Rattle.logical_types.specs.declared.ltype.Sync.{Sync}
use Rattle.logical_types.specs.Synchronicity.{is_apart}
use Rattle.logical_types.specs.Tree.{Ltype, Parts, Settings, stream}
use Rattle.logical_types.specs.Tree as types
use Rattle.type_split.specs.Nodes.{StreamNode, is_physical, node_at, nodes_in, nodes_in_parts, number_of_physical, number_of_streams, place_inside}
use Rattle.type_split.specs.Standing.{AreFrom, StandsAt}
use Rattle.type_split.specs.Streams.{IsPortSplit, PlainSplit}
use Rattle.type_split.proofs.CountLemmas.{nodes_in-length}
use Rattle.type_split.proofs.StandingLemmas.{AreFrom-inside, AreFrom-part, AreFrom-parts, nodes_stand}
use Rattle.logical_value.specs.Tree.{Tree}
use Rattle.value_views.specs.Series.{series_at, NodeSeries, dims_inside, first_part, leaves, number_of_roots, other_parts, replaced, roots_behind, series_in, series_in_parts, series_inside}
use Rattle.value_views.specs.Shown.{Shows, ShowsParts}
use Rattle.value_views.specs.Filling.{AreFilled, HasFilled, IsFilling, is_root, root_series}
use Rattle.value_views.specs.Taking.{IsTaken, NestsWait, Takes, TakeParts}
use Rattle.value_views.proofs.GivenLemmas.{HoldFrom, HoldFrom-append, HoldFrom-at}
use Rattle.value_views.proofs.NestLemmas.{leaves-replaced, leaves-tied_series}
use Rattle.value_views.proofs.JoinLemmas.{one-found}
use Rattle.value_views.proofs.NodeLemmas.{Place}
use Rattle.value_views.proofs.SeriesLemmas.{series_in-length}
use Rattle.value_views.proofs.TiedLemmas.{NodesFrom, inside-tied, node-first, nodes-back, nodes-behind, nodes-front}

-- ---- the nodes inside a node

-- behind a node's series stand those of the nodes inside it
pub record SeriesInside (all : List NodeSeries) (number : ℕ) (node : NodeSeries) : Type 0 where
  pub roots : List (List Tree)
  pub from : NodesFrom all (suc number) (series_in node.dims node.series roots node.element)

mutual
  pub series-stand : (all : List NodeSeries) (number dims : ℕ) (series : List Tree) (roots : List (List Tree)) (ltype : Ltype) → NodesFrom all number (series_in dims series roots ltype)
      → HoldFrom (SeriesInside all) number (series_in dims series roots ltype)
  series-stand all number dims series roots types.null from = tt
  series-stand all number dims series roots (types.bits width) from = tt
  series-stand all number dims series roots (types.group parts) from = series-stand_parts all number dims series roots parts from
  series-stand all number dims series roots (types.union parts) from = series-stand_parts all number dims series roots parts from
  series-stand all number dims series roots (types.stream element user settings) from =
      let inner = dims_inside settings.sync dims settings.dims in
      let s = series_inside settings.sync dims series roots in
      let behind = roots_behind settings.sync roots in
      let at : NodeSeries = record { element = element; dims = inner; series = s } in
      let rest = nodes-behind all number at (series_in inner s behind element) from in
      (record { roots = behind; from = rest }, series-stand all (suc number) inner s behind element rest)

  series-stand_parts : (all : List NodeSeries) (number dims : ℕ) (series : List Tree) (roots : List (List Tree)) (parts : Parts) → NodesFrom all number (series_in_parts dims series roots parts)
      → HoldFrom (SeriesInside all) number (series_in_parts dims series roots parts)
  series-stand_parts all number dims series roots types.no_parts from = tt
  series-stand_parts all number dims series roots (types.part name ltype more) from =
      let streams = number_of_streams ltype in
      let one = series_in dims (replaced first_part dims series) roots ltype in
      let other = series_in_parts dims (replaced other_parts dims series) (drop (number_of_roots ltype) roots) more in
      let long = series_in-length dims (replaced first_part dims series) roots ltype in
      HoldFrom-append (SeriesInside all) number (streams + number) one other (ap (λ (n : ℕ). n + number) (sym long))
      (series-stand all number dims (replaced first_part dims series) roots ltype (nodes-front all number one other from))
      (series-stand_parts all (streams + number) dims (replaced other_parts dims series) (drop (number_of_roots ltype) roots) more (nodes-back all number streams one other long from))

-- the nodes inside a node have it, or one inside it, around them
abbrev HasParent : ℕ → ℕ → StreamNode → Type 0
HasParent above number node = (parent : ℕ) × (node.parent ≡ Some parent) × (above ≤ parent)

mutual
  inside-parents : (above : ℕ) (names : List (List ℕ)) (place : Place) (number physical : ℕ) (ltype : Ltype) (outer : ℕ) → place.parent ≡ Some outer → above ≤ outer → above ≤ number
      → HoldFrom (HasParent above) number (nodes_in names place number physical ltype)
  inside-parents above names place number physical types.null outer is low low' = tt
  inside-parents above names place number physical (types.bits width) outer is low low' = tt
  inside-parents above names place number physical (types.group parts) outer is low low' = inside-parents_parts above names place number physical parts outer is low low'
  inside-parents above names place number physical (types.union parts) outer is low low' = inside-parents_parts above names place number physical parts outer is low low'
  inside-parents above names place number physical (types.stream element user settings) outer is low low' = (
    (outer, is, low),
    inside-parents above names (place_inside place number settings) (suc number) ((if is_physical element user settings then 1 else 0) + physical) element number refl low' (omega (arith, low')),
  )

  inside-parents_parts : (above : ℕ) (names : List (List ℕ)) (place : Place) (number physical : ℕ) (parts : Parts) (outer : ℕ) → place.parent ≡ Some outer → above ≤ outer → above ≤ number
      → HoldFrom (HasParent above) number (nodes_in_parts names place number physical parts)
  inside-parents_parts above names place number physical types.no_parts outer is low low' = tt
  inside-parents_parts above names place number physical (types.part name ltype more) outer is low low' =
      let next = number_of_streams ltype + number in
      HoldFrom-append (HasParent above) number next (nodes_in (names ++ name ∷ []) place number physical ltype) (nodes_in_parts names place next (number_of_physical ltype + physical) more)
      (ap (λ (n : ℕ). n + number) (sym (nodes_in-length (names ++ name ∷ []) place number physical ltype)))
      (inside-parents above (names ++ name ∷ []) place number physical ltype outer is low low')
      (inside-parents_parts above names place next (number_of_physical ltype + physical) more outer is low (omega (arith, low')))

-- ---- what the leaves of a node take

-- the queues of the Streams right inside a node have their nests
abbrev pub AreQueued : (queues : ℕ → List Tree) (nodes : List StreamNode) (all : List NodeSeries) (above dims : ℕ) → Type 0
AreQueued queues nodes all above dims = (k : ℕ) (node : StreamNode) (at : NodeSeries) → suc above ≤ k → slice_get nodes k ≡ Some node → node.parent ≡ Some above → is_apart node.sync ≡ false → slice_get all k ≡ Some at
    → queues k ≡ leaves (node.params.dims - node.own_dims) at.series

taken : (sync : Sync) (own outer dims : ℕ) → outer ≡ dims → effective_dims own sync outer - own ≡ dims_taken_over sync dims
taken sync own outer dims same = (let less : (own + dims_taken_over sync outer) - own ≡ dims_taken_over sync outer = omega arith in less ∙ ap (dims_taken_over sync) same)

mutual
  pub takes-in : (queues given : ℕ → List Tree) (nodes : List StreamNode) (all : List NodeSeries) (above dims : ℕ) → AreQueued queues nodes all above dims → (names : List (List ℕ)) (place : Place)
      (number physical : ℕ) (ltype : Ltype) (series : List Tree) (roots : List (List Tree)) → place.parent ≡ Some above → place.around.dims ≡ dims → suc above ≤ number → AreFrom nodes number (nodes_in names place number physical ltype)
      → NodesFrom all number (series_in dims series roots ltype) → Shows given number dims ltype series → Takes queues number ltype (leaves dims series)
  takes-in queues given nodes all above dims queued names place number physical types.null series roots is around low from next shows = tt
  takes-in queues given nodes all above dims queued names place number physical (types.bits width) series roots is around low from next shows = tt
  takes-in queues given nodes all above dims queued names place number physical (types.group parts) series roots is around low from next shows =
      take-parts_in queues given nodes all above dims queued names place number physical parts series roots is around low from next shows
  takes-in queues given nodes all above dims queued names place number physical (types.union parts) series roots is around low from next shows =
      take-parts_in queues given nodes all above dims queued names place number physical parts series roots is around low from next shows
  takes-in queues given nodes all above dims queued names place number physical (types.stream element user settings) series roots is around low from next shows =
      let inner = dims_inside settings.sync dims settings.dims in
      let s = series_inside settings.sync dims series roots in
      let at : NodeSeries = record { element = element; dims = inner; series = s } in
      let here = (AreFrom-inside nodes names place number physical element user settings from).0 in (
        shows.0,
        λ tied.
            queued number (node_at names place number physical element user settings) at low here is tied (node-first all number at (series_in inner s (roots_behind settings.sync roots) element) next)
            ∙ ap (λ (d : ℕ). leaves d s) (taken settings.sync settings.dims place.around.dims dims around)
            ∙ ap (leaves (dims_taken_over settings.sync dims)) (inside-tied settings.sync dims series roots tied) ∙ leaves-tied_series settings.sync dims series,
      )

  take-parts_in : (queues given : ℕ → List Tree) (nodes : List StreamNode) (all : List NodeSeries) (above dims : ℕ) → AreQueued queues nodes all above dims → (names : List (List ℕ)) (place : Place)
      (number physical : ℕ) (parts : Parts) (series : List Tree) (roots : List (List Tree)) → place.parent ≡ Some above → place.around.dims ≡ dims → suc above ≤ number → AreFrom nodes number (nodes_in_parts names place number physical parts)
      → NodesFrom all number (series_in_parts dims series roots parts) → ShowsParts given number dims parts series → TakeParts queues number parts (leaves dims series)
  take-parts_in queues given nodes all above dims queued names place number physical types.no_parts series roots is around low from next shows = tt
  take-parts_in queues given nodes all above dims queued names place number physical (types.part name ltype more) series roots is around low from next shows =
      let streams = number_of_streams ltype in
      let one = series_in dims (replaced first_part dims series) roots ltype in
      let other = series_in_parts dims (replaced other_parts dims series) (drop (number_of_roots ltype) roots) more in (
        subst (Takes queues number ltype) (leaves-replaced first_part dims series)
            (takes-in queues given nodes all above dims queued (names ++ name ∷ []) place number physical ltype (replaced first_part dims series) roots is around low
            (AreFrom-part nodes names place number physical name ltype more from) (nodes-front all number one other next) shows.0),
        subst (TakeParts queues (streams + number) more) (leaves-replaced other_parts dims series)
            (take-parts_in queues given nodes all above dims queued names place (streams + number) (number_of_physical ltype + physical) more (replaced other_parts dims series)
            (drop (number_of_roots ltype) roots) is around (let lower : suc above ≤ streams + number = omega (arith, low) in lower) (AreFrom-parts nodes names place number physical name ltype more from)
            (nodes-back all number streams one other (series_in-length dims (replaced first_part dims series) roots ltype) next) shows.1),
      )

-- ---- one node

-- the nests of a node wait for those in the queues
pub node-waits : (split : PlainSplit) (given : List (List Tree)) (all : List NodeSeries) (number : ℕ) (queues : ℕ → List Tree) (roots : List (List Tree)) (node : StreamNode) (one : NodeSeries)
    → AreFilled split given all → IsFilling split all (suc number) queues roots → slice_get split.nodes number ≡ Some node → slice_get all number ≡ Some one
    → NestsWait queues (suc number) node.element node.params.dims (series_at number given) one.series []
node-waits split given all number queues roots node one filled filling found there =
    subst (λ (t : Ltype). NestsWait queues (suc number) t node.params.dims (series_at number given) one.series []) (filled.element number node one found there)
    (subst (λ (d : ℕ). NestsWait queues (suc number) one.element d (series_at number given) one.series []) (filled.dims number node one found there)
    (record {
      nested = has.nested;
      elements = has.elements;
      same = sym has.given_is;
      takes = subst (Takes queues (suc number) one.element) (sym (append-nil (leaves one.dims one.series)))
          (takes-in queues (λ n. series_at n given) split.nodes all number one.dims queued node.path stands.place (suc number) stands.physical one.element one.series has.roots stands.parent
          (stands.dims ∙ sym (filled.dims number node one found there)) (omega arith) from has.behind has.shows);
    }))
  where
    has : HasFilled given all number one
    has = filled.each number one there

    stands : StandsAt split.nodes number node
    stands = subst (λ (s : PlainSplit). StandsAt s.nodes number node) (sym filled.port.is)
        (nodes_stand filled.port.ltype number node (ap (λ (s : PlainSplit). slice_get s.nodes number) (sym filled.port.is) ∙ found))

    from : AreFrom split.nodes (suc number) (nodes_in node.path stands.place (suc number) stands.physical one.element)
    from = subst (λ (t : Ltype). AreFrom split.nodes (suc number) (nodes_in node.path stands.place (suc number) stands.physical t)) (sym (filled.element number node one found there)) stands.inner

    not_root : (child : StreamNode) → child.parent ≡ Some number → is_apart child.sync ≡ false → is_root child ≡ false
    not_root child parent tied = ap (λ (o : Option ℕ). not (is_some o) || is_apart child.sync) parent ∙ tied

    only : (o : Option ℕ) → o ≡ Some number → (p : ℕ) → o ≡ Some p → p < suc number
    only None is p is' = cc
    only (Some q) is p is' = (let a : q ≡ number = cc in let b : q ≡ p = cc in omega (arith, a, b))

    queued : AreQueued queues split.nodes all number one.dims
    queued = λ k child at low found_child parent tied found_at. filling.queued k child at found_child low (only child.parent parent) (not_root child parent tied) found_at

-- the nodes behind a node that are not inside it
both-none : {A : Type 0} (a b : ℕ) → ◌≡◌ {A = Option A} (slice_get [] a) (slice_get [] b)
both-none a b = refl

got-dropped : {A : Type 0} (l : List A) (from k : ℕ) → slice_get l (k + from) ≡ slice_get (drop from l) k
got-dropped [] zero k = (let same : k + 0 ≡ k = omega arith in ap (slice_get []) same)
got-dropped {A = A} [] (suc from) k = both-none {A = A} (k + suc from) k
got-dropped (x ∷ l) zero k = (let same : k + 0 ≡ k = omega arith in ap (slice_get (x ∷ l)) same)
got-dropped (x ∷ l) (suc from) k = (let same : k + suc from ≡ suc (k + from) = omega arith in ap (slice_get (x ∷ l)) same ∙ got-dropped l from k)

got-front : {A : Type 0} (one other : List A) (k : ℕ) → k < length one → slice_get (one ++ other) k ≡ slice_get one k
got-front [] other k less = absurd (omega (arith, less))
got-front (x ∷ one) other zero less = refl
got-front (x ∷ one) other (suc k) less = got-front one other k (omega (arith, less))

outside : (split : PlainSplit) (number : ℕ) (node : StreamNode) → IsPortSplit split → slice_get split.nodes number ≡ Some node → (k : ℕ) (other : StreamNode) → slice_get split.nodes k ≡ Some other
    → suc number ≤ k → ((p : ℕ) → other.parent ≡ Some p → p < number) → number_of_streams node.element + suc number ≤ k
outside split number node port found k other there low parents = elim (below-or k (number_of_streams node.element + suc number)) [
  | inl less ↦
      let at : (k - suc number) + suc number ≡ k = omega (arith, low) in
      let got : slice_get inner (k - suc number) ≡ Some other =
      sym (got-front inner stands.inner.rest (k - suc number) (let count = nodes_in-length node.path stands.place (suc number) stands.physical node.element in omega (arith, less, low, count)))
      ∙ ap (λ l. slice_get l (k - suc number)) (sym stands.inner.are) ∙ sym (got-dropped split.nodes (suc number) (k - suc number)) ∙ ap (slice_get split.nodes) at ∙ there in
      let parent = HoldFrom-at (HasParent number) (suc number) (k - suc number) k inner other (sym at)
      (inside-parents number node.path stands.place (suc number) stands.physical node.element number stands.parent (omega arith) (omega arith)) got in
      let high = parents parent.0 parent.1 in
      let lower = parent.2 in absurd (omega (arith, high, lower))
  | inr more ↦ more
]
  where
    stands : StandsAt split.nodes number node
    stands = subst (λ (s : PlainSplit). StandsAt s.nodes number node) (sym port.is) (nodes_stand port.ltype number node (ap (λ (s : PlainSplit). slice_get s.nodes number) (sym port.is) ∙ found))

    inner : List StreamNode
    inner = nodes_in node.path stands.place (suc number) stands.physical node.element

    below-or : (n m : ℕ) → (n < m) ⊎ (m ≤ n)
    below-or n zero = inr (omega arith)
    below-or zero (suc m) = inl (omega arith)
    below-or (suc n) (suc m) = elim (below-or n m) [ inl less ↦ inl (omega (arith, less)) | inr more ↦ inr (omega (arith, more)) ]

-- a list from a place on
from-found : {A : Type 0} (l : List A) (at : ℕ) (x : A) → slice_get l at ≡ Some x → drop at l ≡ x ∷ drop (suc at) l
from-found [] at x found = cc
from-found (y ∷ l) zero x found = (let same : y ≡ x = cc in ap (λ z. z ∷ l) same)
from-found (y ∷ l) (suc at) x found = from-found l at x found

roots-from : (split : PlainSplit) (all : List NodeSeries) (number : ℕ) (node : StreamNode) (one : NodeSeries) → slice_get split.nodes number ≡ Some node → slice_get all number ≡ Some one
    → root_series (drop number split.nodes) (drop number all)
    ≡ (if is_root node then one.series ∷ root_series (drop (suc number) split.nodes) (drop (suc number) all) else root_series (drop (suc number) split.nodes) (drop (suc number) all))
roots-from split all number node one found there =
    ap (λ l. root_series l (drop number all)) (from-found split.nodes number node found) ∙ ap (root_series (node ∷ drop (suc number) split.nodes)) (from-found all number one there)

-- the queues of nodes behind the filled one
later-queued : (split : PlainSplit) (given : List (List Tree)) (all : List NodeSeries) (number : ℕ) (old new : ℕ → List Tree) (roots : List (List Tree)) (node : StreamNode)
    → AreFilled split given all → IsFilling split all (suc number) old roots → slice_get split.nodes number ≡ Some node → IsTaken old new (suc number) node.element []
    → (k : ℕ) (other : StreamNode) (one : NodeSeries) → slice_get split.nodes k ≡ Some other → suc number ≤ k → ((p : ℕ) → other.parent ≡ Some p → p < number)
    → is_root other ≡ false → slice_get all k ≡ Some one → new k ≡ leaves (other.params.dims - other.own_dims) one.series
later-queued split given all number old new roots node filled filling found taken k other one there low parents not_root got =
    taken.kept k (inr (outside split number node filled.port found k other there low parents))
    ∙ filling.queued k other one there low (λ p is. (let less = parents p is in omega (arith, less))) not_root got

same-or : (n m : ℕ) → (n ≡ m) ⊎ (n ≡ m → ⊥)
same-or zero zero = inl refl
same-or zero (suc m) = inr (λ e. absurd (omega (arith, e)))
same-or (suc n) zero = inr (λ e. absurd (omega (arith, e)))
same-or (suc n) (suc m) = elim (same-or n m) [ inl e ↦ inl (ap suc e) | inr e ↦ inr (λ f. e (omega (arith, f))) ]

-- a root was filled
pub root-filled : (split : PlainSplit) (given : List (List Tree)) (all : List NodeSeries) (number : ℕ) (old new : ℕ → List Tree) (roots more : List (List Tree)) (node : StreamNode) (one : NodeSeries)
    → AreFilled split given all → IsFilling split all (suc number) old roots → slice_get split.nodes number ≡ Some node → slice_get all number ≡ Some one → is_root node ≡ true
    → IsTaken old new (suc number) node.element [] → more ≡ roots ++ one.series ∷ [] → IsFilling split all number new more
root-filled split given all number old new roots more node one filled filling found there is taken added = record {
  queued = λ k other at there' low parents not_root got. elim (same-or number k) [
    | inl same ↦ (let here = one-found (slice_get split.nodes number) node other found (ap (slice_get split.nodes) same ∙ there') in
        let clash : true ≡ false = sym is ∙ ap is_root here ∙ not_root in cc)
    | inr away ↦ later-queued split given all number old new roots node filled filling found taken k other at there' (omega (arith, low, away)) parents not_root got
  ];
  roots_are = roots-from split all number node one found there
      ∙ ap (λ (b : Bool). if b then one.series ∷ root_series (drop (suc number) split.nodes) (drop (suc number) all) else root_series (drop (suc number) split.nodes) (drop (suc number) all)) is
      ∙ ap (λ (l : List (List Tree)). one.series ∷ l) filling.roots_are ∙ sym (reverse-append roots (one.series ∷ [])) ∙ ap reverse (sym added);
}

-- a node that is no root was filled, and its queue was written
pub tied-filled : (split : PlainSplit) (given : List (List Tree)) (all : List NodeSeries) (number : ℕ) (old new put : ℕ → List Tree) (roots : List (List Tree)) (node : StreamNode) (one : NodeSeries)
    → AreFilled split given all → IsFilling split all (suc number) old roots → slice_get split.nodes number ≡ Some node → slice_get all number ≡ Some one → is_root node ≡ false
    → IsTaken old new (suc number) node.element [] → put number ≡ leaves (node.params.dims - node.own_dims) one.series → ((k : ℕ) → (number ≡ k → ⊥) → put k ≡ new k)
    → IsFilling split all number put roots
tied-filled split given all number old new put roots node one filled filling found there is taken here others = record {
  queued = λ k other at there' low parents not_root got. elim (same-or number k) [
    | inl same ↦
        let this = one-found (slice_get split.nodes number) node other found (ap (slice_get split.nodes) same ∙ there') in
        let that = one-found (slice_get all number) one at there (ap (slice_get all) same ∙ got) in
        ap put (sym same) ∙ here ∙ ap (λ (n : StreamNode). leaves (n.params.dims - n.own_dims) one.series) this
        ∙ ap (λ (s : NodeSeries). leaves (other.params.dims - other.own_dims) s.series) that
    | inr away ↦ others k away ∙ later-queued split given all number old new roots node filled filling found taken k other at there' (omega (arith, low, away)) parents not_root got
  ];
  roots_are = roots-from split all number node one found there
      ∙ ap (λ (b : Bool). if b then one.series ∷ root_series (drop (suc number) split.nodes) (drop (suc number) all) else root_series (drop (suc number) split.nodes) (drop (suc number) all)) is
      ∙ filling.roots_are;
}

pub record IsFoundAt (all : List NodeSeries) (number : ℕ) : Type 0 where
  pub one : NodeSeries
  pub is : slice_get all number ≡ Some one

pub found-at : (all : List NodeSeries) (number : ℕ) → number < length all → IsFoundAt all number
found-at [] number less = absurd (omega (arith, less))
found-at (x ∷ all) zero less = record { one = x; is = refl }
found-at (x ∷ all) (suc number) less = (let rest = found-at all number (omega (arith, less)) in record { one = rest.one; is = rest.is })

-- the nests of a node that the code fills
pub filled-node : (split : PlainSplit) (given : List (List Tree)) (all : List NodeSeries) (number : ℕ) (old new : ℕ → List Tree) (roots : List (List Tree)) (node : StreamNode) (one : NodeSeries)
    (element : Ltype) (dims : ℕ) (ones filled_series : List Tree) → AreFilled split given all → IsFilling split all (suc number) old roots → slice_get split.nodes number ≡ Some node
    → slice_get all number ≡ Some one → element ≡ node.element → dims ≡ node.params.dims → series_at number given ≡ ones
    → ((some more : List Tree) → NestsWait old (number + 1) element dims ones some more → (filled_series ≡ some) × IsTaken old new (number + 1) element more)
    → (filled_series ≡ one.series) × IsTaken old new (suc number) node.element []
filled-node split given all number old new roots node one element dims ones filled_series filled filling found there same deep are fills =
    let next : suc number ≡ number + 1 = omega arith in
    let waits = node-waits split given all number old roots node one filled filling found there in
    let here = fills one.series []
    (subst (λ (n : ℕ). NestsWait old n element dims ones one.series []) next
    (subst (λ (t : Ltype). NestsWait old (suc number) t dims ones one.series []) (sym same)
    (subst (λ (d : ℕ). NestsWait old (suc number) node.element d ones one.series []) (sym deep)
    (subst (λ (l : List Tree). NestsWait old (suc number) node.element node.params.dims l one.series []) are waits)))) in
    (here.0, subst (λ (n : ℕ). IsTaken old new n node.element []) (sym next) (subst (λ (t : Ltype). IsTaken old new (number + 1) t []) same here.1))
