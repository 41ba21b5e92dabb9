-- The series of streams, joined to a value.
use Rattle.std.proofs.Common.{◌≡◌, ◌∙◌, ◌⊎◌, inl, inr, ℕ, zero, suc, ◌+◌, ◌-◌, ◌<◌, ◌≤◌, Bool, true, if◌then◌else◌, List, [], ◌∷◌, ◌++◌, length, map, take, get_or, Option, Some, None, Ok, Err, All, slice_get, refl, sym, ap, subst, arith}
use Rattle.std.specs.Prelude.{option_map}
use Rattle.std.specs.Iterator.{Yields}
use Rattle.std.proofs.lemmas.Iterator.Adapters.{YieldsList-from_vec}
use Rattle.std.proofs.lemmas.Iterator.Consumers.{YieldsList-end, YieldsList-turn}
use Rattle.std.proofs.lemmas.Bool.{cases_lt}
use Rattle.std.proofs.lemmas.List.{length-map, length_push, map_more, take_all}
use Rattle.std.proofs.lemmas.List.Elements.{All-cons, All-head, All-nil, All-tail}
use Rattle.std.proofs.lemmas.Option.{get_or_from_slice_get, slice_get-map, slice_get_read, slice_get_within}
use Rattle.std.specs.declared.vec.IntoIter.{IntoIter}
use Rattle.std.specs.Vec.Iter.{into_iter_items, into_iter_len, into_iter_steps}
use Rattle.tydi_base.proofs.PlaceLemmas.{slice_get-front, slice_get-next, slice_get-there}
use Rattle.physical_stream.specs.Shape.{is_whole, tail_of}
use Rattle.physical_stream.specs.Ending.{unclosed}
use Rattle.physical_stream.specs.declared.end.End.{End}
use Rattle.physical_stream.specs.declared.end.End.TheVariants as ends
use Rattle.physical_stream.specs.declared.item.Item.{Item}
use Rattle.physical_stream.specs.declared.item.Item.TheVariants as items
use Rattle.logical_types.specs.Tree.{Ltype}
use Rattle.nest_shape.specs.Flat.{HaveDepth, flat, flat_all}
use Rattle.nest_shape.specs.Shape.{IsSeriesOf, LeavesOpen}
use Rattle.nest_shape.specs.Tree.{leaf, list, no_trees, tree, plain, plain_nests, trees_of}
use Rattle.nest_shape.specs.Tree as nests
use Rattle.nest_shape.specs.declared.nest.Nest.{Nest}
use Rattle.nest_shape.proofs.PlainLemmas.{trees_of-map}
use Rattle.type_split.specs.Streams.{IsPortSplit, PlainSplit}
use Rattle.type_split.specs.declared.split.Phys.{Phys}
use Rattle.logical_value.specs.Tree.{Tree, plain_port}
use Rattle.logical_value.specs.declared.value.PortValue.{PortValue}
use Rattle.value_views.specs.Joining.{AreViews, HasViews, HasWords, HaveWords, IsDisagreement, IsView, ShowsView, plain_views}
use Rattle.value_views.specs.Series.{NodeSeries, series_of_nodes}
use Rattle.value_views.specs.Views.{Carries, EachPair, SpellsNode}
use Rattle.value_views.specs.declared.fault.JoinFault.{JoinFault}
use Rattle.value_views.specs.declared.fault.JoinFault.TheVariants as joins
use Rattle.value_views.proofs.FitsLemmas.{nodes-have-series}
use Rattle.value_views.proofs.NodeLemmas.{has-node}
use Rattle.trace_decode.specs.Finishing.{AreFinished, IsBuilt, IsJoined, IsWord, fault_of_join}
use Rattle.trace_decode.specs.Outcome.{AreViewsOf, IsViewOf}
use Rattle.trace_decode.specs.Tags.{element_at, element_of_node, element_of_stream}
use Rattle.trace_decode.specs.declared.fault.DecodeFault.{DecodeFault}
use Rattle.trace_decode.specs.declared.stream_kept.StreamKept.{StreamKept}
use Rattle.trace_decode.proofs.RowLemmas.{same_some}

-- ---- a builder at the end

pub not_open : (dims : ℕ) (done : List Item) (level : ℕ) → is_whole dims (tail_of done) ≡ true → LeavesOpen dims done level → ⊥
not_open dims done level whole open_so =
    let said : ◌≡◌ {A = End} ends.Whole (ends.Unclosed level) = sym (ap (λ (b : Bool). if b then ends.Whole else unclosed (tail_of done)) whole) ∙ open_so.open_at in
    absurd cc

-- ---- pairs of two lists, by their places

pub each_pair : {A B : Type 0} (R : A → B → Type 0) (xs : List A) (ys : List B) → length ys ≡ length xs → ((i : ℕ) (x : A) (y : B) → slice_get xs i ≡ Some x → slice_get ys i ≡ Some y → R x y) → EachPair R xs ys
each_pair R [] [] long each = tt
each_pair R [] (y ∷ ys) long each = absurd (omega arith)
each_pair R (x ∷ xs) [] long each = absurd (omega arith)
each_pair R (x ∷ xs) (y ∷ ys) long each = (each zero x y refl refl, each_pair R xs ys (omega arith) (λ i p q here there. each (suc i) p q here there))

pub pair_at : {A B : Type 0} (R : A → B → Type 0) (xs : List A) (ys : List B) → EachPair R xs ys → (i : ℕ) (x : A) (y : B) → slice_get xs i ≡ Some x → slice_get ys i ≡ Some y → R x y
pair_at R [] ys pairs i x y here there = cc
pair_at R (a ∷ xs) [] pairs i x y here there = absurd pairs
pair_at R (a ∷ xs) (b ∷ ys) pairs zero x y here there =
    let first : a ≡ x = cc in
    let second : b ≡ y = cc in
    subst (λ k. R k y) first (subst (R a) second pairs.0)
pair_at R (a ∷ xs) (b ∷ ys) pairs (suc i) x y here there = pair_at R xs ys pairs.1 i x y here there

pub maps_same : {A B C : Type 0} (f : A → C) (g : B → C) (xs : List A) (ys : List B) → length xs ≡ length ys → ((i : ℕ) (x : A) (y : B) → slice_get xs i ≡ Some x → slice_get ys i ≡ Some y → f x ≡ g y) → map f xs ≡ map g ys
maps_same f g [] [] long each = refl
maps_same f g [] (y ∷ ys) long each = absurd (omega arith)
maps_same f g (x ∷ xs) [] long each = absurd (omega arith)
maps_same f g (x ∷ xs) (y ∷ ys) long each =
    ap (λ l. f x ∷ l) (maps_same f g xs ys (omega arith) (λ i p q here there. each (suc i) p q here there)) ∙ ap (λ k. k ∷ map g ys) (each zero x y refl refl)

-- ---- the words of nests

pub all_front : {A : Type 0} (P : A → Type 0) (xs ys : List A) → All P (xs ++ ys) → All P xs
all_front P [] ys all = All-nil P
all_front P (x ∷ xs) ys all = All-cons P x xs (All-head P x (xs ++ ys) all) (all_front P xs ys (All-tail P x (xs ++ ys) all))

pub all_back : {A : Type 0} (P : A → Type 0) (xs ys : List A) → All P (xs ++ ys) → All P ys
all_back P [] ys all = all
all_back P (x ∷ xs) ys all = all_back P xs ys (All-tail P x (xs ++ ys) all)

mutual
  words_of : (element : Ltype) (depth : ℕ) (one : nests.Tree) → All (IsWord element) (flat depth one) → HasWords element one
  words_of element depth (leaf word) all = All-head (IsWord element) (items.Elem word) [] all
  words_of element depth (list parts) all = words_of_all element (depth - 1) parts (all_front (IsWord element) (flat_all (depth - 1) parts) (items.Close (depth - 1) ∷ []) all)

  pub words_of_all : (element : Ltype) (depth : ℕ) (some : nests.Trees) → All (IsWord element) (flat_all depth some) → HaveWords element some
  words_of_all element depth no_trees all = tt
  words_of_all element depth (tree first more) all = (
    words_of element depth first (all_front (IsWord element) (flat depth first) (flat_all depth more) all),
    words_of_all element depth more (all_back (IsWord element) (flat depth first) (flat_all depth more) all),
  )

-- ---- the series of streams, one after another

-- so many series were made, and the user words beside them
pub record AreMade (split : PlainSplit) (done : List (List Item)) (kept : List StreamKept) (number : ℕ) (views : List (List Nest)) (users : List (List (List Bool))) : Type 0 where
  pub many : length views ≡ number
  pub users_are : users ≡ map (λ (one : StreamKept). one.users) (take number kept)
  pub each : (i : ℕ) (phys : Phys) (some : List Item) (view : List Nest) → slice_get split.streams i ≡ Some phys → slice_get done i ≡ Some some → slice_get views i ≡ Some view
      → IsSeriesOf phys.params.dims some view

pub made_none : (split : PlainSplit) (done : List (List Item)) (kept : List StreamKept) → AreMade split done kept 0 [] []
made_none split done kept = record { many = refl; users_are = refl; each = λ i phys some view there here found. absurd cc }

pub made_more : (split : PlainSplit) (done : List (List Item)) (kept : List StreamKept) (number : ℕ) (views : List (List Nest)) (users : List (List (List Bool))) (one : StreamKept) (view : List Nest)
    → AreFinished split done kept → AreMade split done kept number views users → slice_get kept number ≡ Some one
    → ((dims : ℕ) (some : List Item) → IsBuilt dims some one.builder → IsSeriesOf dims some view) → AreMade split done kept (number + 1) (views ++ view ∷ []) (users ++ one.users ∷ [])
made_more split done kept number views users one view finished made found series = record {
  many = omega (arith, length_push views view, made.many);
  users_are =
      ap (λ (l : List (List (List Bool))). l ++ one.users ∷ []) made.users_are ∙ sym (map_more (λ (k : StreamKept). k.users) kept number one (slice_get_within kept number one found) ∙ same_users);
  each = λ i phys some v there here at. each i phys some v there here at (cases_lt i (length views));
}
  where
    same_users : map (λ (k : StreamKept). k.users) (take number kept) ++ (get_or kept number one).users ∷ [] ≡ map (λ (k : StreamKept). k.users) (take number kept) ++ one.users ∷ []
    same_users = ap (λ (k : StreamKept). map (λ (k' : StreamKept). k'.users) (take number kept) ++ k.users ∷ []) (get_or_from_slice_get kept number one one found)

    each : (i : ℕ) (phys : Phys) (some : List Item) (v : List Nest) → slice_get split.streams i ≡ Some phys → slice_get done i ≡ Some some → slice_get (views ++ view ∷ []) i ≡ Some v
        → (i < length views) ⊎ (length views ≤ i) → IsSeriesOf phys.params.dims some v
    each i phys some v there here at (inl less) = made.each i phys some v there here (sym (slice_get-front views (view ∷ []) i less) ∙ at)
    each i phys some v there here at (inr more) =
        let end : i ≡ length views = omega (arith, slice_get_within (views ++ view ∷ []) i v at, length_push views view) in
        let same : view ≡ v = same_some (sym (slice_get-next views view i end) ∙ at) in
        let place : number ≡ i = omega (arith, made.many) in
        let built = (finished.each i phys some one there here (ap (slice_get kept) (sym place) ∙ found)).built in
        subst (IsSeriesOf phys.params.dims some) same (series phys.params.dims some built)

module _ {Z : Type 0} (kept : List StreamKept) (s t u : IntoIter StreamKept Z) (yielded : List StreamKept) (is_items : into_iter_items s ≡ kept) (many : into_iter_len s ≡ length kept)
    (runs : Yields (into_iter_steps {X = StreamKept} {Z = Z}) s yielded t) where
  -- the next stream that an iterator gives
  pub kept_there : (r : Option StreamKept) (one : StreamKept) → r ≡ Some one → into_iter_steps t r u → slice_get kept (length yielded) ≡ Some one
  kept_there r one is steps =
      let turn = YieldsList-turn (YieldsList-from_vec kept is_items many) yielded t runs r u one is steps in
      slice_get_read kept (length kept) (length yielded) one refl turn.0 turn.1

  pub kept_end : (r : Option StreamKept) → r ≡ None → into_iter_steps t r u → length yielded ≡ length kept
  kept_end r is steps = (YieldsList-end (YieldsList-from_vec kept is_items many) yielded t runs r u is steps).1

-- the items of a stream that is kept, which are nested and whole
pub some_built : (split : PlainSplit) (done : List (List Item)) (kept : List StreamKept) → AreFinished split done kept → (i : ℕ) (one : StreamKept) → slice_get kept i ≡ Some one
    → (dims : ℕ) × ((some : List Item) × IsBuilt dims some one.builder)
some_built split done kept finished i one found =
    let inside = slice_get_within kept i one found in
    let phys = slice_get-there split.streams i (omega (arith, inside, finished.many)) in
    let some = slice_get-there done i (omega (arith, inside, finished.many, finished.lists)) in
    (phys.0.params.dims, (some.0, (finished.each i phys.0 some.0 one phys.1 some.1 found).built))

-- ---- joining

module _ (split : PlainSplit) (port : IsPortSplit split) (done : List (List Item)) (views : List (List nests.Tree)) (spelled : AreViewsOf split views done) where
  -- views whose words stand for values
  pub views_with_words : ((i : ℕ) (phys : Phys) (some : List Item) → slice_get split.streams i ≡ Some phys → slice_get done i ≡ Some some → All (IsWord (element_at split i)) some) → AreViews split views
  views_with_words words = each_pair (IsView split.nodes) split.streams views spelled.many is_view
    where
      is_view : (i : ℕ) (phys : Phys) (view : List nests.Tree) → slice_get split.streams i ≡ Some phys → slice_get views i ≡ Some view → IsView split.nodes phys view
      is_view i phys view there found =
          let some = slice_get-there done i (omega (arith, slice_get_within split.streams i phys there, spelled.lists)) in
          let of = spelled.each i phys view some.0 there found some.1 in
          let has = has-node split port i phys there in
          let element : element_at split i ≡ has.node.element = ap (element_of_stream split.nodes) there ∙ ap element_of_node has.found in
          record {
            node = has.node;
            found = has.found;
            depth = of.depth;
            words = words_of_all has.node.element phys.params.dims (trees_of view)
                (subst (λ (e : Ltype). All (IsWord e) (flat_all phys.params.dims (trees_of view))) element (subst (All (IsWord (element_at split i))) (sym of.flat_is) (words i phys some.0 there some.1)));
          }

  -- the items of views carry each value that has these views
  pub carried : (roots : List (List Tree)) → HasViews split roots views → Carries split roots done
  carried roots has = record { fits = has.fits; spelled = each_pair (SpellsNode (series_of_nodes split.nodes roots)) split.streams done spelled.lists spells }
    where
      spells : (i : ℕ) (phys : Phys) (some : List Item) → slice_get split.streams i ≡ Some phys → slice_get done i ≡ Some some → SpellsNode (series_of_nodes split.nodes roots) phys some
      spells i phys some there here =
          let view = slice_get-there views i (omega (arith, slice_get_within split.streams i phys there, spelled.many)) in
          let shows = pair_at (ShowsView (series_of_nodes split.nodes roots)) split.streams views has.shown i phys view.0 there view.1 in
          let of = spelled.each i phys view.0 some there view.1 here in
          let node = has-node split port i phys there in
          let series = nodes-have-series split port roots has.fits phys.node node.node node.found in
          let same : series.at ≡ shows.node = same_some (sym series.found ∙ shows.found) in
          let dims : phys.params.dims ≡ shows.node.dims = ap (λ p. p.dims) node.params ∙ sym series.dims ∙ ap (λ (n : NodeSeries). n.dims) same in
          record {
            node = shows.node;
            found = shows.found;
            spelled = record { words = view.0; agree = shows.agree; flat_is = sym of.flat_is ∙ ap (λ (d : ℕ). flat_all d (trees_of view.0)) dims };
          }

module _ (split : PlainSplit) (port : IsPortSplit split) (done : List (List Item)) (kept : List StreamKept) (finished : AreFinished split done kept) (views : List (List Nest)) (users : List (List (List Bool)))
    (made : AreMade split done kept (length kept) views users) where
  long : length (plain_views views) ≡ length split.streams
  long = omega (arith, length-map views (λ (view : List Nest). map plain view), made.many, finished.many)

  -- the view at a place
  view_at : (i : ℕ) (view : List nests.Tree) → slice_get (plain_views views) i ≡ Some view → (series : List Nest) × (slice_get views i ≡ Some series) × (view ≡ map plain series)
  view_at i view found =
      let here = slice_get-there views i (omega (arith, slice_get_within (plain_views views) i view found, length-map views (λ (v : List Nest). map plain v))) in
      (here.0, here.1, same_some (sym found ∙ slice_get-map (λ (v : List Nest). map plain v) views i ∙ ap (option_map (λ (v : List Nest). map plain v)) here.1))

  kept_at : (i : ℕ) (phys : Phys) → slice_get split.streams i ≡ Some phys → (one : StreamKept) × (slice_get kept i ≡ Some one)
  kept_at i phys there = slice_get-there kept i (omega (arith, slice_get_within split.streams i phys there, finished.many))

  view_of_items : (i : ℕ) (phys : Phys) (view : List nests.Tree) (some : List Item) → slice_get split.streams i ≡ Some phys → slice_get (plain_views views) i ≡ Some view → slice_get done i ≡ Some some
      → IsViewOf phys view some
  view_of_items i phys view some there found here =
      let at = view_at i view found in
      let series = made.each i phys some at.0 there here at.1 in
      let same : plain_nests at.0 ≡ trees_of view = sym (trees_of-map at.0) ∙ ap trees_of (sym at.2) in
      record { depth = subst (HaveDepth phys.params.dims) same series.depth; flat_is = ap (flat_all phys.params.dims) (sym same) ∙ series.spelled }

  pub views_of_items : AreViewsOf split (plain_views views) done
  views_of_items = record { many = long; lists = finished.lists; each = view_of_items }

  pub are_views : AreViews split (plain_views views)
  are_views = views_with_words split port done (plain_views views) views_of_items words
    where
      words : (i : ℕ) (phys : Phys) (some : List Item) → slice_get split.streams i ≡ Some phys → slice_get done i ≡ Some some → All (IsWord (element_at split i)) some
      words i phys some there here = let one = kept_at i phys there in (finished.each i phys some one.0 there here one.1).words

  all_users : users ≡ map (λ (one : StreamKept). one.users) kept
  all_users = made.users_are ∙ ap (map (λ (one : StreamKept). one.users)) (take_all (length kept) kept (omega arith))

  pub joined-ok : (value : PortValue) → HasViews split (plain_port value) (plain_views views) → IsJoined split done kept (Ok (record { value = value; users = users }))
  joined-ok value has = (carried split port done (plain_views views) views_of_items (plain_port value) has, all_users)

  pub joined-err : (fault : JoinFault) (result : DecodeFault) → IsDisagreement split (plain_views views) fault → result ≡ fault_of_join fault → IsJoined split done kept (Err result)
  joined-err (joins.Disagree path packet) result disagrees is =
      subst (λ (f : DecodeFault). IsJoined split done kept (Err f)) (sym is) (record { views = plain_views views; spelled = views_of_items; first = disagrees })
  joined-err joins.Memory result disagrees is = subst (λ (f : DecodeFault). IsJoined split done kept (Err f)) (sym is) tt
