-- A trace has one outcome: items have one view, and views have one value or one place at which they disagree.
use Rattle.std.proofs.Common.{◌≡◌, ◌∙◌, ◌⊎◌, inl, inr, ℕ, zero, suc, ◌-◌, ◌<◌, ◌≤◌, List, [], ◌∷◌, length, take, Option, Some, None, slice_get, refl, sym, ap, subst, arith}
use Rattle.std.proofs.lemmas.Bool.{cases_lt}
use Rattle.std.proofs.lemmas.Option.{slice_get_within}
use Rattle.tydi_base.proofs.PlaceLemmas.{slice_get-there}
use Rattle.physical_stream.specs.First.{IsFirst, Offence}
use Rattle.physical_stream.specs.declared.head.Head.{Head}
use Rattle.physical_stream.specs.declared.item.Item.{Item}
use Rattle.physical_stream.proofs.FirstLemmas.{IsFirst-one}
use Rattle.logical_types.specs.Tree.{Ltype}
use Rattle.nest_shape.specs.Flat.{HasDepth, HaveDepth, flat_all}
use Rattle.nest_shape.specs.Tree.{leaf, list, no_trees, tree, list_of, plain, plain_nests, trees_of}
use Rattle.nest_shape.specs.Tree as nests
use Rattle.nest_shape.specs.declared.nest.Nest.{Nest}
use Rattle.nest_shape.specs.declared.nest.Nest.TheVariants as made
use Rattle.nest_shape.proofs.LawLemmas.{one_series}
use Rattle.nest_shape.proofs.PlainLemmas.{list_of-trees_of, plain-Leaf, plain-List, trees_of-list_of}
use Rattle.type_split.specs.Streams.{IsPortSplit, PlainSplit}
use Rattle.type_split.specs.declared.split.Phys.{Phys}
use Rattle.logical_value.specs.Tree.{Tree, members}
use Rattle.value_views.specs.Comparing.{Disagreement, disagreement_of}
use Rattle.value_views.specs.Joining.{HasViews, ShowsView}
use Rattle.value_views.specs.Series.{NodeSeries, series_of_nodes}
use Rattle.value_views.specs.Views.{AgreesAt, Carries, EachPair, SpellsNode}
use Rattle.value_views.proofs.FitsLemmas.{nodes-have-series}
use Rattle.value_views.proofs.JoinLemmas.{views-determine-values, views-of_values-agree}
use Rattle.value_views.proofs.NodeLemmas.{has-node}
use Rattle.cycle_trace.specs.Survey.{UnfinishedStream, first_unfinished}
use Rattle.cycle_trace.specs.Trace.{TraceText, streams_of}
use Rattle.port_drive.specs.Drives.{heads_of}
use Rattle.port_drive.specs.Laws.{done_on}
use Rattle.trace_decode.specs.Laws.{DisagreeingCarryNone, ItemsCarryOne, OneOutcome}
use Rattle.trace_decode.specs.Outcome.{AreViewsOf, Carried, DifferFirst, DisagreeAt, Disagrees, IsLegal, IsViewOf, IsWhole, Offends, OtherHeader, Unfinished}
use Rattle.trace_decode.specs.Tags.{OffendsWithTags}
use Rattle.trace_decode.proofs.JoinLemmas.{each_pair}
use Rattle.trace_decode.proofs.RowLemmas.{same_some}

-- ---- nests of one flat form

abbrev mutual
  nest_of_tree : nests.Tree → Nest
  nest_of_tree (leaf word) = made.Leaf word
  nest_of_tree (list parts) = made.List (nests_of_trees parts)

  nests_of_trees : nests.Trees → List Nest
  nests_of_trees no_trees = []
  nests_of_trees (tree first more) = nest_of_tree first ∷ nests_of_trees more

mutual
  plain_nest_of : (one : nests.Tree) → plain (nest_of_tree one) ≡ one
  plain_nest_of (leaf word) = plain-Leaf word
  plain_nest_of (list parts) = plain-List (nests_of_trees parts) ∙ ap list (plain_nests_of parts)

  plain_nests_of : (some : nests.Trees) → plain_nests (nests_of_trees some) ≡ some
  plain_nests_of no_trees = refl
  plain_nests_of (tree first more) = ap (λ t. tree t (plain_nests (nests_of_trees more))) (plain_nest_of first) ∙ ap (tree first) (plain_nests_of more)

-- nests of one depth with one flat form are the same
same_nests : (dims : ℕ) (one other : nests.Trees) → HaveDepth dims one → HaveDepth dims other → flat_all dims one ≡ flat_all dims other → one ≡ other
same_nests dims one other deep deep' same =
    let is =
    one_series dims (nests_of_trees one) (nests_of_trees other) (subst (HaveDepth dims) (sym (plain_nests_of one)) deep) (subst (HaveDepth dims) (sym (plain_nests_of other)) deep')
    (ap (flat_all dims) (plain_nests_of one) ∙ same ∙ ap (flat_all dims) (sym (plain_nests_of other))) in
    sym (plain_nests_of one) ∙ ap plain_nests is ∙ plain_nests_of other

same_views : (phys : Phys) (one other : List nests.Tree) (done : List Item) → IsViewOf phys one done → IsViewOf phys other done → one ≡ other
same_views phys one other done is is' =
    sym (list_of-trees_of one) ∙ ap list_of (same_nests phys.params.dims (trees_of one) (trees_of other) is.depth is'.depth (is.flat_is ∙ sym is'.flat_is)) ∙ list_of-trees_of other

pub lists_same : {A : Type 0} (xs ys : List A) → length xs ≡ length ys → ((i : ℕ) (x y : A) → slice_get xs i ≡ Some x → slice_get ys i ≡ Some y → x ≡ y) → xs ≡ ys
lists_same [] [] long each = refl
lists_same [] (y ∷ ys) long each = absurd (omega arith)
lists_same (x ∷ xs) [] long each = absurd (omega arith)
lists_same (x ∷ xs) (y ∷ ys) long each = ap (λ k. k ∷ xs) (each zero x y refl refl) ∙ ap (λ l. y ∷ l) (lists_same xs ys (omega arith) (λ i p q here there. each (suc i) p q here there))

-- items have one list of views
same_lists_of_views : (split : PlainSplit) (one other : List (List nests.Tree)) (done : List (List Item)) → AreViewsOf split one done → AreViewsOf split other done → one ≡ other
same_lists_of_views split one other done are are' = lists_same one other (are.many ∙ sym are'.many) same
  where
    same : (i : ℕ) (x y : List nests.Tree) → slice_get one i ≡ Some x → slice_get other i ≡ Some y → x ≡ y
    same i x y here there =
        let inside = slice_get_within one i x here in
        let phys = slice_get-there split.streams i (omega (arith, inside, are.many)) in
        let some = slice_get-there done i (omega (arith, inside, are.many, are.lists)) in
        same_views phys.0 x y some.0 (are.each i phys.0 x some.0 phys.1 here some.1) (are'.each i phys.0 y some.0 phys.1 there some.1)

-- ---- the views of items that carry a value

pairs_depth : (element : Ltype) (depth : ℕ) → ((word : nests.Tree) (value : Tree) → AgreesAt element depth word value → HasDepth depth word) → (words : List nests.Tree) (values : List Tree)
    → EachPair (AgreesAt element depth) words values → HaveDepth depth (trees_of words)
pairs_depth element depth each [] values pairs = tt
pairs_depth element depth each (word ∷ words) [] pairs = absurd pairs
pairs_depth element depth each (word ∷ words) (value ∷ values) pairs = (each word value pairs.0, pairs_depth element depth each words values pairs.1)

one_less : (depth : ℕ) → depth ≡ suc depth - 1
one_less depth = omega arith

agrees_depth : (element : Ltype) (depth : ℕ) (word : nests.Tree) (value : Tree) → AgreesAt element depth word value → HasDepth depth word
agrees_depth element zero (leaf bits) value agrees = refl
agrees_depth element zero (list parts) value agrees = absurd agrees
agrees_depth element (suc depth) (leaf bits) value agrees = absurd agrees
agrees_depth element (suc depth) (list parts) value agrees = (
  omega arith,
  subst (λ (d : ℕ). HaveDepth d parts) (one_less depth)
      (subst (HaveDepth depth) (trees_of-list_of parts) (pairs_depth element depth (agrees_depth element depth) (list_of parts) (members value) agrees)),
)

-- the words that are spelled on each stream
abbrev pub words_on : (nodes : List NodeSeries) (streams : List Phys) (done : List (List Item)) → EachPair (SpellsNode nodes) streams done → List (List nests.Tree)
words_on nodes [] done pairs = []
words_on nodes (phys ∷ streams) [] pairs = absurd pairs
words_on nodes (phys ∷ streams) (some ∷ done) pairs = pairs.0.spelled.words ∷ words_on nodes streams done pairs.1

many_words : (nodes : List NodeSeries) (streams : List Phys) (done : List (List Item)) (pairs : EachPair (SpellsNode nodes) streams done)
    → (length (words_on nodes streams done pairs) ≡ length streams) × (length done ≡ length streams)
many_words nodes [] [] pairs = (refl, refl)
many_words nodes [] (some ∷ done) pairs = absurd pairs
many_words nodes (phys ∷ streams) [] pairs = absurd pairs
many_words nodes (phys ∷ streams) (some ∷ done) pairs = let rest = many_words nodes streams done pairs.1 in (ap suc rest.0, ap suc rest.1)

-- those of one stream
pub words_at : (nodes : List NodeSeries) (streams : List Phys) (done : List (List Item)) (pairs : EachPair (SpellsNode nodes) streams done) (i : ℕ) (phys : Phys) (view : List nests.Tree)
    → slice_get streams i ≡ Some phys → slice_get (words_on nodes streams done pairs) i ≡ Some view → (some : List Item) × (slice_get done i ≡ Some some) × ((spells : SpellsNode nodes phys some) × (spells.spelled.words ≡ view))
words_at nodes [] done pairs i phys view here there = cc
words_at nodes (first ∷ streams) [] pairs i phys view here there = absurd pairs
words_at nodes (first ∷ streams) (some ∷ done) pairs zero phys view here there =
    let same : first ≡ phys = same_some here in
    subst (λ (p : Phys). (items : List Item) × (◌≡◌ {A = Option (List Item)} (Some some) (Some items)) × ((spells : SpellsNode nodes p items) × (spells.spelled.words ≡ view))) same (some, refl, (pairs.0, same_some there))
words_at nodes (first ∷ streams) (some ∷ done) pairs (suc i) phys view here there = words_at nodes streams done pairs.1 i phys view here there

module _ (split : PlainSplit) (port : IsPortSplit split) (roots : List (List Tree)) (done : List (List Item)) (carries : Carries split roots done) where
  abbrev words : List (List nests.Tree)
  words = words_on (series_of_nodes split.nodes roots) split.streams done carries.spelled

  long : (length words ≡ length split.streams) × (length done ≡ length split.streams)
  long = many_words (series_of_nodes split.nodes roots) split.streams done carries.spelled

  pub words_are_views : AreViewsOf split words done
  words_are_views = record { many = long.0; lists = long.1; each = each }
    where
      each : (i : ℕ) (phys : Phys) (view : List nests.Tree) (some : List Item) → slice_get split.streams i ≡ Some phys → slice_get words i ≡ Some view → slice_get done i ≡ Some some → IsViewOf phys view some
      each i phys view some there found here =
          let at = words_at (series_of_nodes split.nodes roots) split.streams done carries.spelled i phys view there found in
          let same_items : at.0 ≡ some = same_some (sym at.1 ∙ here) in
          let spells = at.2.0 in
          let node = has-node split port i phys there in
          let series = nodes-have-series split port roots carries.fits phys.node node.node node.found in
          let same : series.at ≡ spells.node = same_some (sym series.found ∙ spells.found) in
          let dims : spells.node.dims ≡ phys.params.dims = ap (λ (n : NodeSeries). n.dims) (sym same) ∙ series.dims ∙ sym (ap (λ p. p.dims) node.params) in
          let depth = pairs_depth spells.node.element spells.node.dims (agrees_depth spells.node.element spells.node.dims) spells.spelled.words spells.node.series spells.spelled.agree in
          record {
            depth = subst (λ (l : List nests.Tree). HaveDepth phys.params.dims (trees_of l)) at.2.1 (subst (λ (d : ℕ). HaveDepth d (trees_of spells.spelled.words)) dims depth);
            flat_is =
                ap (λ (l : List nests.Tree). flat_all phys.params.dims (trees_of l)) (sym at.2.1) ∙ ap (λ (d : ℕ). flat_all d (trees_of spells.spelled.words)) (sym dims)
                ∙ sym spells.spelled.flat_is ∙ same_items;
          }

  pub words_are_shown : HasViews split roots words
  words_are_shown = record { fits = carries.fits; shown = each_pair (ShowsView (series_of_nodes split.nodes roots)) split.streams words long.0 shows }
    where
      shows : (i : ℕ) (phys : Phys) (view : List nests.Tree) → slice_get split.streams i ≡ Some phys → slice_get words i ≡ Some view → ShowsView (series_of_nodes split.nodes roots) phys view
      shows i phys view there found =
          let at = words_at (series_of_nodes split.nodes roots) split.streams done carries.spelled i phys view there found in
          let spells = at.2.0 in
          record { node = spells.node; found = spells.found; agree = subst (λ (l : List nests.Tree). EachPair (AgreesAt spells.node.element spells.node.dims) l spells.node.series) at.2.1 spells.spelled.agree }

-- ---- one outcome

pub disagreeing_carry_none : DisagreeingCarryNone
disagreeing_carry_none split can done place disagree roots carries =
    let same = same_lists_of_views split disagree.views (words split can.port roots done carries) done disagree.spelled (words_are_views split can.port roots done carries) in
    let none = views-of_values-agree split can.port can.carried roots (words split can.port roots done carries) (words_are_shown split can.port roots done carries) in
    let said : ◌≡◌ {A = Option Disagreement} (Some place) None = sym disagree.first ∙ ap (disagreement_of split) same ∙ none in
    absurd cc

pub items_carry_one : ItemsCarryOne
items_carry_one split can done one other carries carries' =
    let same =
    same_lists_of_views split (words split can.port other done carries') (words split can.port one done carries) done (words_are_views split can.port other done carries') (words_are_views split can.port one done carries) in
    views-determine-values split can.port can.carried one other (words split can.port one done carries) (words_are_shown split can.port one done carries)
    (subst (HasViews split other) same (words_are_shown split can.port other done carries'))

same_disagreement : (split : PlainSplit) (done : List (List Item)) (one other : Disagreement) → DisagreeAt split done one → DisagreeAt split done other → one ≡ other
same_disagreement split done one other is is' =
    same_some (sym is.first ∙ ap (disagreement_of split) (same_lists_of_views split is.views is'.views done is.spelled is'.spelled) ∙ is'.first)

pub not_other : (one other : List Head) (place : ℕ) → DifferFirst one other place → one ≡ other → ⊥
not_other one other place differ same = differ.differ (ap (λ (l : List Head). slice_get l place) same)

-- lists that are the same up to a place have the same element before it
same_before : (one other : List Head) (place at : ℕ) → take place one ≡ take place other → at < place → slice_get one at ≡ slice_get other at
same_before one other place at same less = sym (taken one place at less) ∙ ap (λ (l : List Head). slice_get l at) same ∙ taken other place at less
  where
    taken : (l : List Head) (n k : ℕ) → k < n → slice_get (take n l) k ≡ slice_get l k
    taken l zero k less = absurd (omega arith)
    taken [] (suc n) k less = refl
    taken (x ∷ l) (suc n) zero less = refl
    taken (x ∷ l) (suc n) (suc k) less = taken l n k (omega arith)

pub one_place : (one other : List Head) (n m : ℕ) → DifferFirst one other n → DifferFirst one other m → n ≡ m
one_place one other n m is is' = by_cases (cases_lt n m) (cases_lt m n)
  where
    by_cases : (n < m) ⊎ (m ≤ n) → (m < n) ⊎ (n ≤ m) → n ≡ m
    by_cases (inl less) right = absurd (is.differ (same_before one other m n is'.same less))
    by_cases (inr more) (inl less) = absurd (is'.differ (same_before one other n m is.same less))
    by_cases (inr more) (inr most) = omega arith

-- an offence stands in no trace that is legal
legal_has_none : (split : PlainSplit) (t : TraceText) (o : Offence) → IsFirst (OffendsWithTags split t) (Some o) → IsLegal split t → ⊥
legal_has_none split t o first legal = legal.first o first.0

-- a stream that does not end whole stands in no trace that does
whole_has_none : (split : PlainSplit) (t : TraceText) (u : UnfinishedStream) → first_unfinished 0 (streams_of t) ≡ Some u → IsWhole split t → ⊥
whole_has_none split t u some whole = let said : ◌≡◌ {A = Option UnfinishedStream} (Some u) None = sym some ∙ whole.ends in cc

pub one_outcome : OneOutcome
one_outcome split can t (OtherHeader n) (OtherHeader m) a b = ap OtherHeader (one_place t.heads (heads_of split) n m a b)
one_outcome split can t (OtherHeader n) (Offends o) a b = absurd (not_other t.heads (heads_of split) n a b.0)
one_outcome split can t (OtherHeader n) (Unfinished u) a b = absurd (not_other t.heads (heads_of split) n a b.0.heads)
one_outcome split can t (OtherHeader n) (Disagrees d) a b = absurd (not_other t.heads (heads_of split) n a b.0.legal.heads)
one_outcome split can t (OtherHeader n) (Carried roots users) a b = absurd (not_other t.heads (heads_of split) n a b.0.legal.heads)
one_outcome split can t (Offends o) (OtherHeader n) a b = absurd (not_other t.heads (heads_of split) n b a.0)
one_outcome split can t (Offends o) (Offends o') a b = ap Offends (same_some (IsFirst-one (OffendsWithTags split t) (Some o) (Some o') a.1 b.1))
one_outcome split can t (Offends o) (Unfinished u) a b = absurd (legal_has_none split t o a.1 b.0)
one_outcome split can t (Offends o) (Disagrees d) a b = absurd (legal_has_none split t o a.1 b.0.legal)
one_outcome split can t (Offends o) (Carried roots users) a b = absurd (legal_has_none split t o a.1 b.0.legal)
one_outcome split can t (Unfinished u) (OtherHeader n) a b = absurd (not_other t.heads (heads_of split) n b a.0.heads)
one_outcome split can t (Unfinished u) (Offends o) a b = absurd (legal_has_none split t o b.1 a.0)
one_outcome split can t (Unfinished u) (Unfinished u') a b = ap Unfinished (same_some (sym a.1 ∙ b.1))
one_outcome split can t (Unfinished u) (Disagrees d) a b = absurd (whole_has_none split t u a.1 b.0)
one_outcome split can t (Unfinished u) (Carried roots users) a b = absurd (whole_has_none split t u a.1 b.0)
one_outcome split can t (Disagrees d) (OtherHeader n) a b = absurd (not_other t.heads (heads_of split) n b a.0.legal.heads)
one_outcome split can t (Disagrees d) (Offends o) a b = absurd (legal_has_none split t o b.1 a.0.legal)
one_outcome split can t (Disagrees d) (Unfinished u) a b = absurd (whole_has_none split t u b.1 a.0)
one_outcome split can t (Disagrees d) (Disagrees d') a b = ap Disagrees (same_disagreement split (done_on (streams_of t)) d d' a.1 b.1)
one_outcome split can t (Disagrees d) (Carried roots users) a b = absurd (disagreeing_carry_none split can (done_on (streams_of t)) d a.1 roots b.1.0)
one_outcome split can t (Carried roots users) (OtherHeader n) a b = absurd (not_other t.heads (heads_of split) n b a.0.legal.heads)
one_outcome split can t (Carried roots users) (Offends o) a b = absurd (legal_has_none split t o b.1 a.0.legal)
one_outcome split can t (Carried roots users) (Unfinished u) a b = absurd (whole_has_none split t u b.1 a.0)
one_outcome split can t (Carried roots users) (Disagrees d) a b = absurd (disagreeing_carry_none split can (done_on (streams_of t)) d b.1 roots a.1.0)
one_outcome split can t (Carried roots users) (Carried roots' users') a b =
    ap (λ (r : List (List Tree)). Carried r users) (items_carry_one split can (done_on (streams_of t)) roots roots' a.1.0 b.1.0) ∙ ap (Carried roots') (a.1.1 ∙ sym b.1.1)
