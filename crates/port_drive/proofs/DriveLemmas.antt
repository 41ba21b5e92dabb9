-- Where runs drive a port.
use Rattle.std.proofs.Common.{◌≡◌, ◌∙◌, ℕ, zero, suc, ◌+◌, ◌%◌, ◌^◌, ◌<◌, ◌≤◌, ◌==◌, Bool, true, false, not, ◌&&◌, ◌||◌, nat_le, if◌then◌else◌, List, [], ◌∷◌, length, map, slice_get, Option, Some, None, option_map, Result, Ok, Err, refl, sym, ap, subst, arith}
use Rattle.std.specs.List.{All}
use Rattle.std.proofs.lemmas.Bool.Decides.{nat_tests}
use Rattle.std.proofs.lemmas.List.{length-take, take_all}
use Rattle.tydi_base.specs.Level.{number_of}
use Rattle.tydi_base.specs.Reading.{◌>>=◌}
use Rattle.physical_stream.specs.Counts.{transfers_of}
use Rattle.physical_stream.specs.Cycles.{Cycle, items_done}
use Rattle.physical_stream.specs.Items.{items_of_all}
use Rattle.physical_stream.specs.Params.{Parameters}
use Rattle.physical_stream.specs.Signals.{Shows}
use Rattle.physical_stream.specs.Shape.{is_whole, tail_of}
use Rattle.physical_stream.specs.declared.item.Item.{Item}
use Rattle.physical_stream.specs.declared.transfer.Transfer.{Transfer}
use Rattle.logical_value.specs.Tree.{Tree}
use Rattle.nest_shape.specs.Flat.{flat_all}
use Rattle.nest_shape.specs.Tree as nests
use Rattle.nest_shape.proofs.LawLemmas.{nests_whole}
use Rattle.type_split.specs.Streams.{IsPortSplit, PlainSplit}
use Rattle.type_split.specs.declared.split.Phys.{Phys}
use Rattle.plan_text.specs.Laws as plans
use Rattle.plan_text.specs.Laws.{FitEach}
use Rattle.plan_text.specs.declared.plan.StreamPlan.{StreamPlan}
use Rattle.plan_text.specs.declared.plan.Wish.{Wish}
use Rattle.std.proofs.lemmas.List.Elements.{All-head, All-tail}
use Rattle.handshake.specs.Rows.{StreamRun}
use Rattle.handshake.specs.Run.{run_of, undone}
use Rattle.handshake.proofs.RunLemmas.{Sound, Sound-run}
use Rattle.scheduler.specs.Laws.{AreItems, CanBePlanned, IsLegalRun, IsMultiple, UsersFit}
use Rattle.nest_shape.specs.Shape.{AreWhole}
use Rattle.scheduler.specs.Planned.{MasksFit, Planned, plan_of}
use Rattle.scheduler.proofs.LawLemmas.{goes-first, planned_are_shown, planned_items, planned_obeys, planned_runs_are_legal}
use Rattle.scheduler.proofs.PlanLemmas.{planned_some}
use Rattle.scheduler.proofs.ScheduleLemmas.{multiple-any, multiple-rest}
use Rattle.cycle_trace.specs.Trace.{params_of_heads}
use Rattle.trace_pieces.specs.Laws.{stream_of_run}
use Rattle.value_views.specs.Series.{NodeSeries, series_of_nodes}
use Rattle.value_views.specs.Laws.{FitsStream, items_of}
use Rattle.value_views.proofs.FitsLemmas.{nodes-have-series}
use Rattle.value_views.proofs.LawLemmas.{streams-have-views, views-carry}
use Rattle.value_views.proofs.NodeLemmas.{has-node}
use Rattle.logical_value.specs.Fits.{fits_split}
use Rattle.physical_stream.specs.declared.item.Item.TheVariants as items
use Rattle.value_views.specs.Views.{EachPair, SpellsNode, node_of, view_of}
use Rattle.port_drive.specs.Drives.{Undriven, CountNotMultiple, NotFinished, drive_of, finished_from, head_of_stream, is_multiple, items_in, items_on, left_of, planned_run, run_unless, runs_from, runs_of}
use Rattle.port_drive.specs.Laws.{IsLegalStream, IsRunOf}

-- ---- plans that fit

-- a plan fits a stream over so many cycles: a ready bit for each, masks of its lanes, and user words of its width
pub record PlanFits (cycles : ℕ) (p : Parameters) (plan : StreamPlan) : Type 0 where
  pub long : length plan.ready ≡ cycles
  pub masks : MasksFit p plan.wishes
  pub users : UsersFit p plan.users

-- there is a plan for each of these streams, and it fits
abbrev pub PlansFit : ℕ → List Phys → List StreamPlan → Type 0
PlansFit cycles [] [] = Unit {0}
PlansFit cycles (stream ∷ streams) (plan ∷ plans) = PlanFits cycles stream.params plan × PlansFit cycles streams plans
PlansFit cycles streams plans = ⊥

masks-fit : (p : Parameters) (wishes : List Wish) → All (λ wish. wish.mask < 2 ^ p.lanes) wishes → MasksFit p wishes
masks-fit p [] all = tt
masks-fit p (wish ∷ more) all = (All-head (λ (w : Wish). w.mask < 2 ^ p.lanes) wish more all, masks-fit p more (All-tail (λ (w : Wish). w.mask < 2 ^ p.lanes) wish more all))

users-fit : (p : Parameters) (users : List (List Bool)) → All (λ user. length user ≡ p.user) users → UsersFit p users
users-fit p [] all = tt
users-fit p (user ∷ more) all = (All-head (λ (u : List Bool). length u ≡ p.user) user more all, users-fit p more (All-tail (λ (u : List Bool). length u ≡ p.user) user more all))

pub plan-fits : (cycles : ℕ) (p : Parameters) (plan : StreamPlan) → plans.FitsStream cycles p plan → PlanFits cycles p plan
plan-fits cycles p plan fits = record { long = fits.ready; masks = masks-fit p plan.wishes fits.wishes; users = users-fit p plan.users fits.users }

pub plans-fit : (cycles : ℕ) (streams : List Phys) (plans : List StreamPlan) → FitEach cycles streams plans → PlansFit cycles streams plans
plans-fit cycles [] [] fit = tt
plans-fit cycles [] (plan ∷ plans) fit = absurd fit
plans-fit cycles (stream ∷ streams) [] fit = absurd fit
plans-fit cycles (stream ∷ streams) (plan ∷ plans) fit = (plan-fits cycles stream.params plan fit.0, plans-fit cycles streams plans fit.1)

-- ---- the lanes divide the items

pub multiple-so : (p : Parameters) (items : List Item) → 1 ≤ p.lanes → is_multiple p items ≡ true → IsMultiple p items
multiple-so p items some is = by_whole (p.dims == 0) (nat_le (number_of p.level) 4) refl refl is
  where
    by_whole : (flat low : Bool) → (p.dims == 0) ≡ flat → nat_le (number_of p.level) 4 ≡ low → (not (flat && low) || (length items % p.lanes == 0)) ≡ true → IsMultiple p items
    by_whole true true is_flat is_low divides =
        let none : p.dims ≡ 0 = grind (arith, nat_tests) in
        let few : number_of p.level ≤ 4 = grind (arith, nat_tests) in
        (multiple-rest p items p.lanes some refl (none, few)).0 divides
    by_whole true false is_flat is_low divides = multiple-any p items (λ whole. grind (arith, nat_tests))
    by_whole false low is_flat is_low divides = multiple-any p items (λ whole. grind (arith, nat_tests))

-- ---- the run of a stream

-- a stream with its plan, the items of the value on it, and its run
pub record RunAt (split : PlainSplit) (value : List (List Tree)) (cycles first : ℕ) (streams : List Phys) (plans : List StreamPlan) (k : ℕ) (run : StreamRun) : Type 0 where
  pub stream : Phys
  pub stream_there : slice_get streams k ≡ Some stream
  pub plan : StreamPlan
  pub plan_there : slice_get plans k ≡ Some plan
  pub fits : PlanFits cycles stream.params plan
  pub multiple : is_multiple stream.params (items_on split value (first + k) stream) ≡ true
  pub is : run ≡ planned_run stream.params (items_on split value (first + k) stream) plan

-- a run that is made, where the lanes divide the items
unless-so : (number : ℕ) (p : Parameters) (items : List Item) (plan : StreamPlan) (run : StreamRun) → run_unless number p items plan ≡ Ok run → (is_multiple p items ≡ true) × (run ≡ planned_run p items plan)
unless-so number p items plan run = by_test (is_multiple p items) refl
  where
    by_test : (test : Bool) → is_multiple p items ≡ test → (if test then Ok (planned_run p items plan) else Err (CountNotMultiple number (length items) p.lanes)) ≡ Ok run → (is_multiple p items ≡ true) × (run ≡ planned_run p items plan)
    by_test true is made = let e : planned_run p items plan ≡ run = cc in (is, sym e)
    by_test false is made = cc

same-list : (one other : List StreamRun) → ◌≡◌ {A = Result (List StreamRun) Undriven} (Ok one) (Ok other) → one ≡ other
same-list one other is = cc

same-some : (one other : StreamRun) → ◌≡◌ {A = Option StreamRun} (Some one) (Some other) → one ≡ other
same-some one other is = cc

-- the run of the first stream, and those of the others
record Made (split : PlainSplit) (value : List (List Tree)) (first : ℕ) (stream : Phys) (streams : List Phys) (plan : StreamPlan) (plans : List StreamPlan) (runs : List StreamRun) : Type 0 where
  run : StreamRun
  made_run : run_unless first stream.params (items_on split value first stream) plan ≡ Ok run
  more : List StreamRun
  made_more : runs_from split value (suc first) streams plans ≡ Ok more
  all : run ∷ more ≡ runs

made-of : (split : PlainSplit) (value : List (List Tree)) (first : ℕ) (stream : Phys) (streams : List Phys) (plan : StreamPlan) (plans : List StreamPlan) (runs : List StreamRun)
    → runs_from split value first (stream ∷ streams) (plan ∷ plans) ≡ Ok runs → Made split value first stream streams plan plans runs
made-of split value first stream streams plan plans runs = by (run_unless first stream.params (items_on split value first stream) plan) refl (runs_from split value (suc first) streams plans) refl
  where
    by : (one : Result StreamRun Undriven) → run_unless first stream.params (items_on split value first stream) plan ≡ one → (rest : Result (List StreamRun) Undriven) → runs_from split value (suc first) streams plans ≡ rest
        → (one >>= λ run. rest >>= λ others. Ok (run ∷ others)) ≡ Ok runs → Made split value first stream streams plan plans runs
    by (Ok run) is (Ok more) are made = record { run = run; made_run = is; more = more; made_more = are; all = same-list (run ∷ more) runs made }
    by (Ok run) is (Err fault) are made = cc
    by (Err fault) is rest are made = cc

-- the runs that are made, and that they finish
pub record Finished (split : PlainSplit) (value : List (List Tree)) (plans : List StreamPlan) (runs : List StreamRun) : Type 0 where
  pub all : List StreamRun
  pub made : runs_of split value plans ≡ Ok all
  pub finished : finished_from 0 all all ≡ Ok runs

pub finished-of : (split : PlainSplit) (value : List (List Tree)) (plans : List StreamPlan) (runs : List StreamRun) → drive_of split value plans ≡ Ok runs → Finished split value plans runs
finished-of split value plans runs = by (runs_of split value plans) refl
  where
    by : (made : Result (List StreamRun) Undriven) → runs_of split value plans ≡ made → (made >>= λ all. finished_from 0 all all) ≡ Ok runs → Finished split value plans runs
    by (Ok all) is ends = record { all = all; made = is; finished = ends }
    by (Err fault) is ends = cc

no-run : (k : ℕ) (run : StreamRun) → ◌≡◌ {A = Option StreamRun} (slice_get [] k) (Some run) → ⊥
no-run zero run is = cc
no-run (suc k) run is = cc

module _ (split : PlainSplit) (value : List (List Tree)) (cycles : ℕ) where
  pub run-at : (streams : List Phys) (plans : List StreamPlan) (first : ℕ) (runs : List StreamRun) (k : ℕ) (run : StreamRun) → PlansFit cycles streams plans → runs_from split value first streams plans ≡ Ok runs
      → slice_get runs k ≡ Some run → RunAt split value cycles first streams plans k run
  run-at [] plans first runs k run fit made there = absurd (no-run k run (ap (λ (l : List StreamRun). slice_get l k) (same-list [] runs made) ∙ there))
  run-at (stream ∷ streams) [] first runs k run fit made there = absurd fit
  run-at (stream ∷ streams) (plan ∷ plans) first runs zero run fit made there =
      let m = made-of split value first stream streams plan plans runs made in
      let here : m.run ≡ run = same-some m.run run (ap (λ (l : List StreamRun). slice_get l 0) m.all ∙ there) in
      let so = unless-so first stream.params (items_on split value first stream) plan m.run m.made_run in
      let at : first ≡ first + 0 = omega arith in
      record {
        stream = stream;
        stream_there = refl;
        plan = plan;
        plan_there = refl;
        fits = fit.0;
        multiple = subst (λ (n : ℕ). is_multiple stream.params (items_on split value n stream) ≡ true) at so.0;
        is = sym here ∙ subst (λ (n : ℕ). m.run ≡ planned_run stream.params (items_on split value n stream) plan) at so.1;
      }
  run-at (stream ∷ streams) (plan ∷ plans) first runs (suc k) run fit made there =
      let m = made-of split value first stream streams plan plans runs made in
      later (run-at streams plans (suc first) m.more k run fit.1 m.made_more (ap (λ (l : List StreamRun). slice_get l (suc k)) m.all ∙ there))
    where
      later : RunAt split value cycles (suc first) streams plans k run → RunAt split value cycles first (stream ∷ streams) (plan ∷ plans) (suc k) run
      later at =
          let number : suc first + k ≡ first + suc k = omega arith in
          record {
            stream = at.stream;
            stream_there = at.stream_there;
            plan = at.plan;
            plan_there = at.plan_there;
            fits = at.fits;
            multiple = subst (λ (n : ℕ). is_multiple at.stream.params (items_on split value n at.stream) ≡ true) number at.multiple;
            is = subst (λ (n : ℕ). run ≡ planned_run at.stream.params (items_on split value n at.stream) at.plan) number at.is;
          }

  pub many-runs : (streams : List Phys) (plans : List StreamPlan) (first : ℕ) (runs : List StreamRun) → PlansFit cycles streams plans → runs_from split value first streams plans ≡ Ok runs → length streams ≡ length runs
  many-runs [] plans first runs fit made = ap length (same-list [] runs made)
  many-runs (stream ∷ streams) [] first runs fit made = absurd fit
  many-runs (stream ∷ streams) (plan ∷ plans) first runs fit made =
      let m = made-of split value first stream streams plan plans runs made in
      ap suc (many-runs streams plans (suc first) m.more fit.1 m.made_more) ∙ ap length m.all

  pub runs-params : (streams : List Phys) (plans : List StreamPlan) (first : ℕ) (runs : List StreamRun) → PlansFit cycles streams plans → runs_from split value first streams plans ≡ Ok runs
      → params_of_heads (map head_of_stream streams) ≡ map (λ (s : StreamRun). s.params) runs
  runs-params [] plans first runs fit made = ap (map (λ (s : StreamRun). s.params)) (same-list [] runs made)
  runs-params (stream ∷ streams) [] first runs fit made = absurd fit
  runs-params (stream ∷ streams) (plan ∷ plans) first runs fit made =
      let m = made-of split value first stream streams plan plans runs made in
      let so = unless-so first stream.params (items_on split value first stream) plan m.run m.made_run in
      ap (λ (l : List Parameters). stream.params ∷ l) (runs-params streams plans (suc first) m.more fit.1 m.made_more)
      ∙ ap (λ (p : Parameters). p ∷ map (λ (s : StreamRun). s.params) m.more) (sym (ap (λ (r : StreamRun). r.params) so.1))
      ∙ ap (map (λ (s : StreamRun). s.params)) m.all

-- ---- runs that finish

pub finished-same : (number : ℕ) (all rest runs : List StreamRun) → finished_from number all rest ≡ Ok runs → all ≡ runs
finished-same number all [] runs is = same-list all runs is
finished-same number all (run ∷ rest) runs is = by_test (left_of run == 0) (finished-same (suc number) all rest runs) is
  where
    by_test : (test : Bool) → (finished_from (suc number) all rest ≡ Ok runs → all ≡ runs) → (if test then finished_from (suc number) all rest else Err (NotFinished number (left_of run))) ≡ Ok runs → all ≡ runs
    by_test true later is = later is
    by_test false later is = cc

zero-by : (n : ℕ) → (n == 0) ≡ true → n ≡ 0
zero-by n test = grind (arith, nat_tests)

-- the first run leaves none, and the others finish
first-finished : (number : ℕ) (all rest runs : List StreamRun) (first : StreamRun) → finished_from number all (first ∷ rest) ≡ Ok runs → (left_of first ≡ 0) × (finished_from (suc number) all rest ≡ Ok runs)
first-finished number all rest runs first is = by_test (left_of first == 0) refl is
  where
    by_test : (test : Bool) → (left_of first == 0) ≡ test → (if test then finished_from (suc number) all rest else Err (NotFinished number (left_of first))) ≡ Ok runs
        → (left_of first ≡ 0) × (finished_from (suc number) all rest ≡ Ok runs)
    by_test true test is = (zero-by (left_of first) test, is)
    by_test false test is = cc

pub none-left : (number : ℕ) (all rest runs : List StreamRun) (k : ℕ) (run : StreamRun) → finished_from number all rest ≡ Ok runs → slice_get rest k ≡ Some run → left_of run ≡ 0
none-left number all [] runs k run is there = absurd (no-run k run there)
none-left number all (first ∷ rest) runs zero run is there = ap left_of (sym (same-some first run there)) ∙ (first-finished number all rest runs first is).0
none-left number all (first ∷ rest) runs (suc k) run is there = none-left (suc number) all rest runs k run (first-finished number all rest runs first is).1 there

-- ---- what holds of a driven port

pub each-pair : {A B : Type 0} (R : A → B → Type 0) (xs : List A) (ys : List B) → length xs ≡ length ys → ((i : ℕ) (x : A) (y : B) → slice_get xs i ≡ Some x → slice_get ys i ≡ Some y → R x y) → EachPair R xs ys
each-pair R [] [] many each = tt
each-pair R [] (y ∷ ys) many each = absurd (omega (arith, many))
each-pair R (x ∷ xs) [] many each = absurd (omega (arith, many))
each-pair R (x ∷ xs) (y ∷ ys) many each = (each 0 x y refl refl, each-pair R xs ys (omega (arith, many)) (λ i a b is_a is_b. each (suc i) a b is_a is_b))

there-too : {A B : Type 0} (xs : List A) (ys : List B) (i : ℕ) (y : B) → length xs ≡ length ys → slice_get ys i ≡ Some y → (x : A) × (slice_get xs i ≡ Some x)
there-too xs [] zero y many is = cc
there-too xs [] (suc i) y many is = cc
there-too [] (z ∷ ys) i y many is = absurd (omega (arith, many))
there-too (x ∷ xs) (z ∷ ys) zero y many is = (x, refl)
there-too (x ∷ xs) (z ∷ ys) (suc i) y many is = there-too xs ys i y (omega (arith, many)) is

-- ---- the items of a stream

pair-of : {A B : Type 0} (R : A → B → Type 0) (f : A → B) (xs : List A) (i : ℕ) (x : A) → EachPair R xs (map f xs) → slice_get xs i ≡ Some x → R x (f x)
pair-of R f [] i x each is = cc
pair-of R f (y ∷ xs) zero x each is = let same : y ≡ x = cc in subst (λ z. R z (f z)) same each.0
pair-of R f (y ∷ xs) (suc i) x each is = pair-of R f xs i x each.1 is

are-items : (p : Parameters) (some : List Item) → All (FitsStream p) some → AreItems p some
are-items p [] all = tt
are-items p (items.Elem word ∷ more) all = (All-head (FitsStream p) (items.Elem word) more all, are-items p more (All-tail (FitsStream p) (items.Elem word) more all))
are-items p (items.Close dim ∷ more) all = (All-head (FitsStream p) (items.Close dim) more all, are-items p more (All-tail (FitsStream p) (items.Close dim) more all))

same-items : (found : Option NodeSeries) (dims : ℕ) (view : List nests.Tree) → option_map view_of found ≡ Some view → ((node : NodeSeries) → found ≡ Some node → node.dims ≡ dims)
    → items_of found ≡ flat_all dims (nests.trees_of view)
same-items None dims view is deep = cc
same-items (Some node) dims view is deep =
    let words : view_of node ≡ view = cc in
    ap (λ (d : ℕ). flat_all d (nests.trees_of (view_of node))) (deep node refl) ∙ ap (λ (l : List nests.Tree). flat_all dims (nests.trees_of l)) words

-- the items of a value on a stream: items of the stream, whole, which spell the series of its node
pub record IsItemsOn (split : PlainSplit) (value : List (List Tree)) (number : ℕ) (stream : Phys) : Type 0 where
  pub are : AreItems stream.params (items_on split value number stream)
  pub whole : AreWhole stream.params.dims (items_on split value number stream)
  pub spelled : SpellsNode (series_of_nodes split.nodes value) stream (items_on split value number stream)

module _ (split : PlainSplit) (value : List (List Tree)) (port : IsPortSplit split) (fits : fits_split split value ≡ true) where
  node-dims : (number : ℕ) (stream : Phys) → slice_get split.streams number ≡ Some stream → (node : NodeSeries) → slice_get (series_of_nodes split.nodes value) stream.node ≡ Some node → node.dims ≡ stream.params.dims
  node-dims number stream there node found =
      let has = has-node split port number stream there in
      let at = nodes-have-series split port value fits stream.node has.node has.found in
      let same : node ≡ at.at = same-node (slice_get (series_of_nodes split.nodes value) stream.node) node at.at found at.found in
      ap (λ (n : NodeSeries). n.dims) same ∙ at.dims ∙ sym (ap (λ (p : Parameters). p.dims) has.params)
    where
      same-node : (o : Option NodeSeries) (one other : NodeSeries) → o ≡ Some one → o ≡ Some other → one ≡ other
      same-node o one other is_one is_other = cc

  pub items-so : (number : ℕ) (stream : Phys) → slice_get split.streams number ≡ Some stream → IsItemsOn split value number stream
  items-so number stream there =
      let has = streams-have-views split port value fits number stream there in
      let on : items_on split value number stream ≡ flat_all stream.params.dims (nests.trees_of has.view) = ap (items_in stream.params.dims) has.is in
      let found : option_map view_of (node_of (series_of_nodes split.nodes value) (Some stream)) ≡ Some has.view =
      sym (ap (λ (o : Option Phys). option_map view_of (node_of (series_of_nodes split.nodes value) o)) there) ∙ has.is in
      let same : items_of (node_of (series_of_nodes split.nodes value) (Some stream)) ≡ items_on split value number stream =
      same-items (node_of (series_of_nodes split.nodes value) (Some stream)) stream.params.dims has.view found (node-dims number stream there) ∙ sym on in
      record {
        are = subst (AreItems stream.params) (sym on) (are-items stream.params (flat_all stream.params.dims (nests.trees_of has.view)) has.items);
        whole = subst (AreWhole stream.params.dims) (sym on) (nests_whole stream.params.dims (nests.trees_of has.view) has.depth).1;
        spelled = subst (SpellsNode (series_of_nodes split.nodes value) stream) same
            (pair-of (SpellsNode (series_of_nodes split.nodes value)) (λ (phys : Phys). items_of (node_of (series_of_nodes split.nodes value) (Some phys))) split.streams number stream
            (views-carry split port value fits).spelled there);
      }

-- the facts of a run of a driven port
pub record IsRunning (split : PlainSplit) (value : List (List Tree)) (number : ℕ) (run : StreamRun) (stream : Phys) (plan : StreamPlan) : Type 0 where
  pub is_run : IsRunOf split value number stream plan run
  pub shown : All (Shows run.params) run.transfers
  pub legal : left_of run ≡ 0 → IsLegalStream (stream_of_run run)
  pub done : left_of run ≡ 0 → items_done run.params (run_of run.params run.transfers run.gaps run.ready) ≡ items_on split value number stream

pub running : (split : PlainSplit) (value : List (List Tree)) (number cycles : ℕ) (stream : Phys) (plan : StreamPlan) → 1 ≤ stream.params.lanes → IsItemsOn split value number stream → PlanFits cycles stream.params plan
    → is_multiple stream.params (items_on split value number stream) ≡ true → IsRunning split value number (planned_run stream.params (items_on split value number stream) plan) stream plan
running split value number cycles stream plan some on fits multiple = record {
  is_run = record { params = refl; planned = planned; gaps = refl; ready = refl };
  shown = planned_are_shown p plan.wishes plan.users items ts can fits.users planned;
  legal = λ none. record { legal = legal.legal; whole = legal.ends_whole (all-done none) };
  done = λ none. ap (items_of_all p) (sound.done ∙ take_all (transfers_of run) ts (omega (arith, all-done none))) ∙ planned_items p plan.wishes plan.users items ts some on.are planned;
}
  where
    p : Parameters
    p = stream.params

    items : List Item
    items = items_on split value number stream

    can : CanBePlanned p plan.wishes items
    can = record { lanes = some; fit = on.are; nested = on.whole.nested; whole = on.whole.whole; multiple = multiple-so p items some multiple; masks = fits.masks }

    ts : List Transfer
    ts = plan_of p plan.wishes plan.users items

    planned : Planned p plan.wishes plan.users items ts
    planned = planned_some (length items + length plan.wishes) p plan.wishes plan.users items some fits.masks (omega arith)

    legal : IsLegalRun p ts plan.gaps plan.ready
    legal = planned_runs_are_legal p plan.wishes plan.users items ts plan.gaps plan.ready can planned

    run : List Cycle
    run = run_of p ts plan.gaps plan.ready

    whole : is_whole p.dims (tail_of (items_of_all p ts)) ≡ true
    whole = ap (λ (l : List Item). is_whole p.dims (tail_of l)) (planned_items p plan.wishes plan.users items ts some on.are planned) ∙ on.whole.whole

    sound : Sound p ts plan.gaps run
    sound = Sound-run p ts plan.gaps (planned_obeys p plan.wishes plan.users items ts [] some (goes-first p plan.wishes items can) planned) whole plan.ready

    done-few : transfers_of run ≤ length ts
    done-few = omega (arith, ap length sound.done, length-take (transfers_of run) ts)

    all-done : undone p ts plan.gaps plan.ready ≡ 0 → transfers_of run ≡ length ts
    all-done none = omega (arith, none, done-few)
