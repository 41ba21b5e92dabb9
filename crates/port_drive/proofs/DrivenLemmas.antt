-- A driven port: its rows are a trace, legal, whole, and carry the value.
use Rattle.std.proofs.Common.{◌≡◌, ◌∙◌, ℕ, zero, suc, ◌+◌, true, List, length, map, slice_get, Some, Ok, refl, sym, ap, subst, arith}
use Rattle.std.proofs.lemmas.List.{length-map}
use Rattle.physical_stream.specs.Cycles.{StreamTrace, items_done}
use Rattle.physical_stream.specs.declared.head.Head.{Head}
use Rattle.physical_stream.specs.declared.item.Item.{Item}
use Rattle.logical_value.specs.Tree.{Tree}
use Rattle.type_split.specs.Streams.{PlainSplit}
use Rattle.type_split.specs.declared.split.Phys.{Phys}
use Rattle.plan_text.specs.declared.plan.Plan.{Plan}
use Rattle.plan_text.specs.declared.plan.StreamPlan.{StreamPlan}
use Rattle.handshake.specs.Rows.{StreamRun}
use Rattle.cycle_trace.specs.Trace.{params_of_heads, streams_of}
use Rattle.trace_pieces.specs.Laws.{AreRunsOf, stream_of_run}
use Rattle.trace_pieces.proofs.RunLemmas.{mapped-from, runs-shown, same-found, streams-are}
use Rattle.value_views.specs.Series.{series_of_nodes}
use Rattle.value_views.specs.Views.{SpellsNode}
use Rattle.port_drive.specs.Drives.{drive_of, finished_from, heads_of, head_of_stream, is_multiple, items_on, left_of, planned_run, runs_of}
use Rattle.port_drive.specs.Laws.{CanBeDriven, IsDriven, IsLegalStream, IsRunOf, done_on, trace_of}
use Rattle.handshake.specs.Rows.{rows_after, rows_from}
use Rattle.trace_pieces.proofs.LawLemmas.{rows-made}
use Rattle.port_drive.specs.Finishing.{CanBeMeasured}
use Rattle.port_drive.proofs.DriveLemmas.{IsRunning, PlansFit, RunAt, each-pair, finished-of, finished-same, items-so, many-runs, none-left, plans-fit, run-at, running, runs-params}

module _ (split : PlainSplit) (value : List (List Tree)) (plan : Plan) (runs : List StreamRun) (can : CanBeDriven split value plan)
    (made : runs_of split value plan.streams ≡ Ok runs) where
  plans_fit : PlansFit plan.cycles split.streams plan.streams
  plans_fit = plans-fit plan.cycles split.streams plan.streams can.plan_fits.each

  pub at : (k : ℕ) (run : StreamRun) → slice_get runs k ≡ Some run → RunAt split value plan.cycles 0 split.streams plan.streams k run
  at k run there = run-at split value plan.cycles split.streams plan.streams 0 runs k run plans_fit made there

  pub runs-so : (k : ℕ) (run : StreamRun) (there : slice_get runs k ≡ Some run) → IsRunning split value k run (at k run there).stream (at k run there).plan
  runs-so k run there =
      let a = at k run there in
      let number : 0 + k ≡ k = omega arith in
      let multiple : is_multiple a.stream.params (items_on split value k a.stream) ≡ true = subst (λ (n : ℕ). is_multiple a.stream.params (items_on split value n a.stream) ≡ true) number a.multiple in
      let is : run ≡ planned_run a.stream.params (items_on split value k a.stream) a.plan = subst (λ (n : ℕ). run ≡ planned_run a.stream.params (items_on split value n a.stream) a.plan) number a.is in
      subst (λ (r : StreamRun). IsRunning split value k r a.stream a.plan) (sym is)
      (running split value k plan.cycles a.stream a.plan (can.lanes k a.stream a.stream_there) (items-so split value can.port can.value_fits k a.stream a.stream_there) a.fits multiple)

  pub are-runs : AreRunsOf plan.cycles (heads_of split) runs
  are-runs = record {
    params = runs-params split value plan.cycles split.streams plan.streams 0 runs plans_fit made;
    long = λ k run there. let a = at k run there in ap (λ (r : StreamRun). length r.ready) a.is ∙ a.fits.long;
    shown = λ k run there. (runs-so k run there).shown;
  }

  streams-so : streams_of (trace_of split plan.cycles runs) ≡ map stream_of_run runs
  streams-so = streams-are plan.cycles (heads_of split) runs are-runs

  first-rows : (many : ℕ) → rows_after runs 0 0 many ≡ rows_from runs 0 many
  first-rows zero = refl
  first-rows (suc many) = refl

  -- the rows of runs that are made can be counted and written
  pub can-be-measured : CanBeMeasured split plan.cycles runs
  can-be-measured = record {
    shown = rows-made (params_of_heads (heads_of split)) plan.cycles (rows_from runs 0 plan.cycles) (runs-shown plan.cycles (heads_of split) runs are-runs);
    many = length-map (heads_of split) (λ (head : Head). head.params) ∙ length-map split.streams head_of_stream ∙ many-runs split value plan.cycles split.streams plan.streams 0 runs plans_fit made
        ∙ sym (length-map runs left_of);
    first = first-rows plan.cycles;
  }

  module _ (finishes : finished_from 0 runs runs ≡ Ok runs) where
    finished : (k : ℕ) (run : StreamRun) → slice_get runs k ≡ Some run → left_of run ≡ 0
    finished k run there = none-left 0 runs runs runs k run finishes there

    planned-so : (k : ℕ) (stream : Phys) (one : StreamPlan) (run : StreamRun) → slice_get split.streams k ≡ Some stream → slice_get plan.streams k ≡ Some one → slice_get runs k ≡ Some run → IsRunOf split value k stream one run
    planned-so k stream one run is_stream is_plan there =
        let a = at k run there in
        let same_stream : a.stream ≡ stream = same-found (slice_get split.streams k) a.stream stream a.stream_there is_stream in
        let same_plan : a.plan ≡ one = same-found (slice_get plan.streams k) a.plan one a.plan_there is_plan in
        subst (λ (q : StreamPlan). IsRunOf split value k stream q run) same_plan (subst (λ (s : Phys). IsRunOf split value k s a.plan run) same_stream (runs-so k run there).is_run)

    legal-so : (k : ℕ) (stream : StreamTrace) → slice_get (streams_of (trace_of split plan.cycles runs)) k ≡ Some stream → IsLegalStream stream
    legal-so k stream there =
        let m = mapped-from stream_of_run runs k stream (sym (ap (λ (l : List StreamTrace). slice_get l k) streams-so) ∙ there) in
        subst IsLegalStream (sym m.same) ((runs-so k m.from m.there).legal (finished k m.from m.there))

    done-so : (k : ℕ) (stream : Phys) (items : List Item) → slice_get split.streams k ≡ Some stream → slice_get (done_on (streams_of (trace_of split plan.cycles runs))) k ≡ Some items
        → items ≡ items_on split value k stream
    done-so k stream items is_stream there =
        let d = mapped-from (λ (s : StreamTrace). items_done s.params s.cycles) (streams_of (trace_of split plan.cycles runs)) k items there in
        let m = mapped-from stream_of_run runs k d.from (sym (ap (λ (l : List StreamTrace). slice_get l k) streams-so) ∙ d.there) in
        let a = at k m.from m.there in
        let same_stream : a.stream ≡ stream = same-found (slice_get split.streams k) a.stream stream a.stream_there is_stream in
        let done : items ≡ items_on split value k a.stream =
        d.same ∙ ap (λ (s : StreamTrace). items_done s.params s.cycles) m.same ∙ (runs-so k m.from m.there).done (finished k m.from m.there) in
        done ∙ ap (items_on split value k) same_stream

    spells-so : (k : ℕ) (stream : Phys) (items : List Item) → slice_get split.streams k ≡ Some stream → slice_get (done_on (streams_of (trace_of split plan.cycles runs))) k ≡ Some items
        → SpellsNode (series_of_nodes split.nodes value) stream items
    spells-so k stream items is_stream there =
        subst (SpellsNode (series_of_nodes split.nodes value) stream) (sym (done-so k stream items is_stream there)) (items-so split value can.port can.value_fits k stream is_stream).spelled

    many-done : length split.streams ≡ length (done_on (streams_of (trace_of split plan.cycles runs)))
    many-done =
        many-runs split value plan.cycles split.streams plan.streams 0 runs plans_fit made
        ∙ sym (length-map runs stream_of_run) ∙ ap length (sym streams-so)
        ∙ sym (length-map (streams_of (trace_of split plan.cycles runs)) (λ (s : StreamTrace). items_done s.params s.cycles))

    pub driven-by : IsDriven split value plan runs
    driven-by = record {
      is_trace = λ heads. record { few_cycles = can.plan_fits.cycles; streams = heads; shown = runs-shown plan.cycles (heads_of split) runs are-runs };
      streams = streams-so;
      planned = planned-so;
      legal = legal-so;
      items = done-so;
      carries = record { fits = can.value_fits; spelled = each-pair (SpellsNode (series_of_nodes split.nodes value)) split.streams (done_on (streams_of (trace_of split plan.cycles runs))) many-done spells-so };
    }

pub is-driven : (split : PlainSplit) (value : List (List Tree)) (plan : Plan) (runs : List StreamRun) → CanBeDriven split value plan → drive_of split value plan.streams ≡ Ok runs → IsDriven split value plan runs
is-driven split value plan runs can drives =
    let ends = finished-of split value plan.streams runs drives in
    let same : ends.all ≡ runs = finished-same 0 ends.all ends.all runs ends.finished in
    driven-by split value plan runs can (ends.made ∙ ap Ok same) (subst (λ (all : List StreamRun). finished_from 0 all all ≡ Ok runs) same ends.finished)
