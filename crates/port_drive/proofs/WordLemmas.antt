-- The words of the elements that a driven port shows.
use Rattle.std.proofs.Common.{◌≡◌, ◌∙◌, ℕ, zero, suc, ◌-◌, ◌<◌, ◌⊎◌, inl, inr, Bool, true, false, nat_le, if◌then◌else◌, List, [], ◌∷◌, ◌++◌, length, get_or, take, slice_get, Some, None, Ok, Contains, sym, ap, subst, arith}
use Rattle.std.specs.List.{flat_map}
use Rattle.std.proofs.lemmas.List.Elements.{Contains-append_cases, Contains-append_left, Contains-append_right}
use Rattle.physical_stream.specs.Counts.{transfers_of}
use Rattle.physical_stream.specs.Cycles.{Cycle, StreamTrace}
use Rattle.physical_stream.specs.Items.{items_of, items_of_all}
use Rattle.physical_stream.specs.Params.{Parameters}
use Rattle.physical_stream.specs.declared.item.Item.{Item}
use Rattle.physical_stream.specs.declared.item.Item.TheVariants as items
use Rattle.physical_stream.specs.declared.transfer.Transfer.{Transfer}
use Rattle.logical_types.specs.Tree.{Ltype}
use Rattle.logical_value.specs.Tree.{Tree, members}
use Rattle.nest_shape.specs.Flat.{flat, flat_all}
use Rattle.nest_shape.specs.Tree as nests
use Rattle.type_split.specs.Nodes.{StreamNode}
use Rattle.type_split.specs.Streams.{PlainSplit}
use Rattle.type_split.specs.declared.split.Phys.{Phys}
use Rattle.plan_text.specs.declared.plan.Plan.{Plan}
use Rattle.handshake.specs.Run.{gap_of, idle_of, run_of, shown_after}
use Rattle.handshake.proofs.OneRunLemmas.{run_is}
use Rattle.scheduler.proofs.LawLemmas.{planned_items}
use Rattle.trace_pieces.specs.Laws.{stream_of_run}
use Rattle.trace_pieces.proofs.RunLemmas.{mapped-from, same-found}
use Rattle.value_views.specs.Series.{NodeSeries, series_of_nodes}
use Rattle.value_views.specs.Views.{AgreesAt, EachPair}
use Rattle.value_views.proofs.FitsLemmas.{nodes-have-series}
use Rattle.port_drive.specs.Drives.{items_on, runs_of}
use Rattle.port_drive.specs.Laws.{CanBeDriven}
use Rattle.port_drive.specs.Words.{DrivenWordsHaveValues, HasValue}
use Rattle.port_drive.proofs.DriveLemmas.{finished-of, finished-same, items-so}
use Rattle.port_drive.proofs.DrivenLemmas.{at, is-driven, runs-so}

-- ---- lists

there-at : {A : Type 0} (xs : List A) (number : ℕ) (x : A) → slice_get xs number ≡ Some x → Contains xs x
there-at [] zero x is = absurd cc
there-at [] (suc number) x is = absurd cc
there-at (y ∷ xs) zero x is = (0, omega arith, (let same : y ≡ x = cc in same))
there-at (y ∷ xs) (suc number) x is = let rest = there-at xs number x is in (suc rest.0, omega (arith, rest.1), rest.2)

none-there : {A : Type 0} (x : A) → Contains [] x → ⊥
none-there x there = omega (arith, there.1)

only-one : {A : Type 0} (y x : A) → Contains (y ∷ []) x → y ≡ x
only-one y x there = by there.0 there.1 there.2
  where
    by : (number : ℕ) → number < length (y ∷ []) → get_or (y ∷ []) number x ≡ x → y ≡ x
    by zero within is = is
    by (suc number) within is = absurd (omega (arith, within))

-- the items of a transfer are among those of all
among-all : (p : Parameters) (ts : List Transfer) (number : ℕ) (t : Transfer) (item : Item) → slice_get ts number ≡ Some t → Contains (items_of p t) item → Contains (items_of_all p ts) item
among-all p [] zero t item is there = absurd cc
among-all p [] (suc number) t item is there = absurd cc
among-all p (one ∷ ts) zero t item is there =
    let same : one ≡ t = cc in
    Contains-append_left (items_of p one) (flat_map (items_of p) ts) item (subst (λ (s : Transfer). Contains (items_of p s) item) (sym same) there)
among-all p (one ∷ ts) (suc number) t item is there = Contains-append_right (items_of p one) (flat_map (items_of p) ts) item (among-all p ts number t item is there)

-- a transfer that is shown after some cycles is one of a run's
shown-at : (p : Parameters) (ts : List Transfer) (gaps : List ℕ) (before : List Cycle) (t : Transfer) → shown_after p ts gaps before ≡ Some t → slice_get ts (transfers_of before) ≡ Some t
shown-at p ts gaps before t = by (nat_le (gap_of p ts gaps (transfers_of before)) (idle_of before))
  where
    by : (passed : Bool) → (if passed then slice_get ts (transfers_of before) else None) ≡ Some t → slice_get ts (transfers_of before) ≡ Some t
    by true is = is
    by false is = absurd cc

-- ---- the words of nests that agree with values

either : {A B C : Type 0} → (A → C) → (B → C) → A ⊎ B → C
either one other (inl a) = one a
either one other (inr b) = other b

no-close : (depth : ℕ) (word : List Bool) → Contains (items.Close depth ∷ []) (items.Elem word) → ⊥
no-close depth word there = let same : items.Close depth ≡ items.Elem word = only-one (items.Close depth) (items.Elem word) there in cc

module _ (element : Ltype) (word : List Bool) where
  mutual
    nest-value : (depth : ℕ) (nest : nests.Tree) (value : Tree) → AgreesAt element depth nest value → Contains (flat depth nest) (items.Elem word) → HasValue element word
    nest-value zero (nests.leaf bits) value agrees there =
        let one : items.Elem bits ≡ items.Elem word = only-one (items.Elem bits) (items.Elem word) there in
        let same : bits ≡ word = cc in
        subst (HasValue element) same (record { value = value; agrees = agrees.1 })
    nest-value zero (nests.list parts) value agrees there = absurd agrees
    nest-value (suc depth) (nests.leaf bits) value agrees there = absurd agrees
    nest-value (suc depth) (nests.list parts) value agrees there =
        let less : suc depth - 1 ≡ depth = omega arith in
        either (nests-value depth parts (members value) agrees) (λ close. absurd (no-close depth word close))
        (Contains-append_cases (flat_all depth parts) (items.Close depth ∷ []) (items.Elem word) (subst (λ (n : ℕ). Contains (flat_all n parts ++ items.Close n ∷ []) (items.Elem word)) less there))

    nests-value : (depth : ℕ) (parts : nests.Trees) (values : List Tree) → EachPair (AgreesAt element depth) (nests.list_of parts) values → Contains (flat_all depth parts) (items.Elem word) → HasValue element word
    nests-value depth nests.no_trees values agree there = absurd (none-there (items.Elem word) there)
    nests-value depth (nests.tree first more) [] agree there = absurd agree
    nests-value depth (nests.tree first more) (value ∷ values) agree there =
        either (nest-value depth first value agree.0) (nests-value depth more values agree.1) (Contains-append_cases (flat depth first) (flat_all depth more) (items.Elem word) there)

  words-value : (depth : ℕ) (words : List nests.Tree) (values : List Tree) → EachPair (AgreesAt element depth) words values → Contains (flat_all depth (nests.trees_of words)) (items.Elem word) → HasValue element word
  words-value depth [] values agree there = absurd (none-there (items.Elem word) there)
  words-value depth (first ∷ words) [] agree there = absurd agree
  words-value depth (first ∷ words) (value ∷ values) agree there =
      either (nest-value depth first value agree.0) (words-value depth words values agree.1) (Contains-append_cases (flat depth first) (flat_all depth (nests.trees_of words)) (items.Elem word) there)

-- ---- the words of a driven port

-- a word among the items of a value on a stream
item-value : (split : PlainSplit) (value : List (List Tree)) (plan : Plan) (number : ℕ) (stream : Phys) (node : StreamNode) (word : List Bool) → CanBeDriven split value plan → slice_get split.streams number ≡ Some stream
    → slice_get split.nodes stream.node ≡ Some node → Contains (items_on split value number stream) (items.Elem word) → HasValue node.element word
item-value split value plan number stream node word can there found inside =
    let spelled = (items-so split value can.port can.value_fits number stream there).spelled in
    let has = nodes-have-series split can.port value can.value_fits stream.node node found in
    let same : spelled.node ≡ has.at = same-found (slice_get (series_of_nodes split.nodes value) stream.node) spelled.node has.at spelled.found has.found in
    let element : spelled.node.element ≡ node.element = ap (λ (n : NodeSeries). n.element) same ∙ has.element in
    subst (λ (e : Ltype). HasValue e word) element
    (words-value spelled.node.element word spelled.node.dims spelled.spelled.words spelled.node.series spelled.spelled.agree (subst (λ (l : List Item). Contains l (items.Elem word)) spelled.spelled.flat_is inside))

pub words-have-values : DrivenWordsHaveValues
words-have-values split value plan runs can drives number cycle stream node trace now t word there found traced shows shown inside =
    let ends = finished-of split value plan.streams runs drives in
    let made : runs_of split value plan.streams ≡ Ok runs = ends.made ∙ ap Ok (finished-same 0 ends.all ends.all runs ends.finished) in
    let driven = is-driven split value plan runs can drives in
    let m = mapped-from stream_of_run runs number trace (sym (ap (λ (l : List StreamTrace). slice_get l number) driven.streams) ∙ traced) in
    let run = m.from in
    let a = at split value plan runs can made number run m.there in
    let same : a.stream ≡ stream = same-found (slice_get split.streams number) a.stream stream a.stream_there there in
    let is = (runs-so split value plan runs can made number run m.there).is_run in
    let said = (run_is run.params run.transfers run.gaps run.ready).shown cycle now (sym (ap (λ (s : StreamTrace). slice_get s.cycles cycle) m.same) ∙ shows) in
    let one = shown-at run.params run.transfers run.gaps (take cycle (run_of run.params run.transfers run.gaps run.ready)) t (sym said ∙ shown) in
    let params : trace.params ≡ a.stream.params = ap (λ (s : StreamTrace). s.params) m.same ∙ is.params in
    let all : Contains (items_of_all a.stream.params run.transfers) (items.Elem word) =
    among-all a.stream.params run.transfers _ t (items.Elem word) one (subst (λ (p : Parameters). Contains (items_of p t) (items.Elem word)) params inside) in
    let on : items_of_all a.stream.params run.transfers ≡ items_on split value number a.stream =
    planned_items a.stream.params a.plan.wishes a.plan.users (items_on split value number a.stream) run.transfers (can.lanes number a.stream a.stream_there)
    (items-so split value can.port can.value_fits number a.stream a.stream_there).are is.planned in
    item-value split value plan number stream node word can there found
    (subst (λ (s : Phys). Contains (items_on split value number s) (items.Elem word)) same (subst (λ (l : List Item). Contains l (items.Elem word)) on all))
