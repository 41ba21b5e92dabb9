-- The text at the far side of a port is what the value drives at a port with these lanes and this level.
use Rattle.std.proofs.Common.{◌≡◌, ◌∙◌, ℕ, zero, suc, ◌^◌, ◌<◌, ◌≤◌, ◌==◌, Bool, true, false, if◌then◌else◌, List, [], ◌∷◌, length, map, option_map, slice_get, Some, Result, Ok, Err, refl, sym, ap, subst, arith}
use Rattle.std.specs.List.{All}
use Rattle.std.proofs.lemmas.Bool.Decides.{nat_tests}
use Rattle.std.proofs.lemmas.List.Elements.{All-cons, All-head, All-nil, All-tail, All-weaker}
use Rattle.tydi_base.specs.Level.{LevelNumbers}
use Rattle.tydi_base.specs.Reading.{◌>>=◌}
use Rattle.physical_stream.specs.Cycles.{Cycle}
use Rattle.physical_stream.specs.StreamLine.{IsHead}
use Rattle.physical_stream.specs.declared.item.Item.{Item}
use Rattle.cycle_trace.specs.Trace.{TraceText}
use Rattle.logical_value.specs.Tree.{Tree}
use Rattle.type_split.specs.Streams.{PlainSplit}
use Rattle.type_split.specs.declared.split.Phys.{Phys}
use Rattle.plan_text.specs.Laws.{FitEach, FitsPort, FitsStream}
use Rattle.plan_text.specs.Words.{most_cycles}
use Rattle.plan_text.specs.declared.plan.Plan.{Plan}
use Rattle.plan_text.specs.declared.plan.StreamPlan.{StreamPlan}
use Rattle.handshake.specs.Rows.{StreamRun, rows_from}
use Rattle.reshape.specs.Reshaping.{far_of, undone_far}
use Rattle.reshape_laws.proofs.FinishLemmas.{reshaping_finishes}
use Rattle.port_drive.specs.Drives.{CountNotMultiple, NotFinished, Undriven, drive_of, finished_from, head_of_stream, heads_of, is_multiple, items_in, items_on, left_of, planned_run, run_unless, runs_from, runs_of}
use Rattle.port_drive.specs.Laws.{trace_of}
use Rattle.port_drive.specs.Text.{drive_text, written_text}
use Rattle.port_drive.proofs.DriveLemmas.{IsItemsOn, PlanFits, items-so, plan-fits}
use Rattle.value_views.specs.Series.{NodeSeries, series_of_nodes}
use Rattle.value_views.specs.Views.{node_of, view_of}
use Rattle.port_reshape.specs.Far.{IsFarSplit, IsShape, far_params, far_split, far_stream, is_low}
use Rattle.port_reshape.specs.Laws.{FarSplitsAreFar, HasFarReadyBits, IsDrivenAs, MayReshape, ReadySourcesReshape, ReshapedTextsAreDriven}
use Rattle.port_reshape.specs.Reshapes.{far_trace, reshape_items, reshape_streams, reshape_text}
use Rattle.port_reshape.proofs.FarLemmas.{can-reshape, far-gaps, far-left, far-rows, far_here, far_one, far_run}
use Rattle.port_reshape.proofs.OneLemmas.{IsReshapedTo, far-made, reshaped-to, source-made}

-- ---- the split with other lanes and another level

pub node-same : (lanes : ℕ) (level : LevelNumbers) (nodes : List NodeSeries) (streams : List Phys) (number : ℕ) → node_of nodes (slice_get (map (far_stream lanes level) streams) number) ≡ node_of nodes (slice_get streams number)
node-same lanes level nodes [] number = refl
node-same lanes level nodes (stream ∷ streams) zero = refl
node-same lanes level nodes (stream ∷ streams) (suc number) = node-same lanes level nodes streams number

pub far_splits_are_far : FarSplitsAreFar
far_splits_are_far split lanes level = record {
  streams = refl;
  views = λ value number. ap (option_map view_of) (node-same lanes level (series_of_nodes split.nodes value) split.streams number);
  fits = λ value. refl;
}

-- ---- a port of one stream

-- its heads at the far side are in form
head-far : (lanes : ℕ) (level : LevelNumbers) (stream : Phys) → IsShape lanes level → IsHead (head_of_stream stream) → IsHead (head_of_stream (far_stream lanes level stream))
head-far lanes level stream shape head = record {
  names = head.names;
  level = shape.is_level;
  range = record {
    some_lane = shape.some_lane;
    lanes_most = shape.lanes_most;
    dims_most = head.range.dims_most;
    element_most = head.range.element_most;
    user_most = head.range.user_most;
  };
}

heads-far : (lanes : ℕ) (level : LevelNumbers) (streams : List Phys) → IsShape lanes level → All IsHead (map head_of_stream streams) → All IsHead (map head_of_stream (map (far_stream lanes level) streams))
heads-far lanes level [] shape all = All-nil IsHead
heads-far lanes level (stream ∷ streams) shape all =
    All-cons IsHead (head_of_stream (far_stream lanes level stream)) (map head_of_stream (map (far_stream lanes level) streams))
    (head-far lanes level stream shape (All-head IsHead (head_of_stream stream) (map head_of_stream streams) all))
    (heads-far lanes level streams shape (All-tail IsHead (head_of_stream stream) (map head_of_stream streams) all))

-- one plan for the one stream
one-plan : (cycles : ℕ) (stream : Phys) (plans : List StreamPlan) → FitEach cycles (stream ∷ []) plans → (one : StreamPlan) × (plans ≡ one ∷ []) × FitsStream cycles stream.params one
one-plan cycles stream [] fit = absurd fit
one-plan cycles stream (one ∷ []) fit = (one, refl, fit.0)
one-plan cycles stream (one ∷ other ∷ more) fit = absurd fit.1

-- what is said of the stream of a port that may be reshaped
pub record IsOne (split : PlainSplit) (value : List (List Tree)) (plan : Plan) (lanes : ℕ) (level : LevelNumbers) (stream : Phys) (one : StreamPlan) : Type 0 where
  pub streams : split.streams ≡ stream ∷ []
  pub plans : plan.streams ≡ one ∷ []
  pub some : 1 ≤ stream.params.lanes
  pub on : IsItemsOn split value 0 stream
  pub fits : PlanFits plan.cycles stream.params one
  pub high : is_low stream.params.dims level ≡ false
  pub no_user : stream.params.user ≡ 0

module _ (split : PlainSplit) (value : List (List Tree)) (plan : Plan) (lanes : ℕ) (level : LevelNumbers) (may : MayReshape split value plan lanes level) where
  pub is-one : (stream : Phys) (one : StreamPlan) → split.streams ≡ stream ∷ [] → plan.streams ≡ one ∷ [] → IsOne split value plan lanes level stream one
  is-one stream one streams plans =
      let same : may.port.stream ≡ stream = let e : may.port.stream ∷ [] ≡ stream ∷ [] = sym may.port.one ∙ streams in cc in
      let there : slice_get split.streams 0 ≡ Some stream = ap (λ (l : List Phys). slice_get l 0) streams in
      let fit : FitEach plan.cycles (stream ∷ []) (one ∷ []) = subst (λ (l : List StreamPlan). FitEach plan.cycles (stream ∷ []) l) plans (subst (λ (l : List Phys). FitEach plan.cycles l plan.streams) streams may.drives.plan_fits.each) in
      let head : All IsHead (head_of_stream stream ∷ []) = subst (λ (l : List Phys). All IsHead (map head_of_stream l)) streams may.drives.heads in
      record {
        streams = streams;
        plans = plans;
        some = (All-head IsHead (head_of_stream stream) [] head).range.some_lane;
        on = items-so split value may.drives.port may.drives.value_fits 0 stream there;
        fits = plan-fits plan.cycles stream.params one fit.0;
        high = ap (λ (s : Phys). is_low s.params.dims level) (sym same) ∙ may.port.high;
        no_user = ap (λ (s : Phys). s.params.user) (sym same) ∙ may.port.no_user;
      }

  module _ (stream : Phys) (one : StreamPlan) (is : IsOne split value plan lanes level stream one) where
    pub streams-are : reshape_streams split value lanes level split.streams plan.streams ≡ reshape_items stream.params (far_params lanes level stream.params) (items_on split value 0 stream) one
    streams-are =
        ap (λ (l : List Phys). reshape_streams split value lanes level l plan.streams) is.streams
        ∙ ap (λ (l : List StreamPlan). reshape_streams split value lanes level (stream ∷ []) l) is.plans

    pub text-of : (rows : List Cycle) → reshape_items stream.params (far_params lanes level stream.params) (items_on split value 0 stream) one ≡ Ok rows
        → reshape_text split value plan lanes level ≡ Ok (written_text (far_trace split lanes level plan.cycles rows))
    text-of rows made = ap (λ (r : Result (List Cycle) Undriven). r >>= λ all. Ok (written_text (far_trace split lanes level plan.cycles all))) (streams-are ∙ made)

    -- the rows of a text
    rows-of : (text : List ℕ) → reshape_text split value plan lanes level ≡ Ok text
        → (rows : List Cycle) × (reshape_items stream.params (far_params lanes level stream.params) (items_on split value 0 stream) one ≡ Ok rows) × (text ≡ written_text (far_trace split lanes level plan.cycles rows))
    rows-of text made = by_rows (reshape_items stream.params (far_params lanes level stream.params) (items_on split value 0 stream) one) refl
      where
        by_rows : (found : Result (List Cycle) Undriven) → reshape_items stream.params (far_params lanes level stream.params) (items_on split value 0 stream) one ≡ found
            → (rows : List Cycle) × (reshape_items stream.params (far_params lanes level stream.params) (items_on split value 0 stream) one ≡ Ok rows) × (text ≡ written_text (far_trace split lanes level plan.cycles rows))
        by_rows (Ok rows) found = (rows, found, let e : Ok (written_text (far_trace split lanes level plan.cycles rows)) ≡ Ok text = sym (text-of rows found) ∙ made in same e)
          where
            same : ◌≡◌ {A = Result (List ℕ) Undriven} (Ok (written_text (far_trace split lanes level plan.cycles rows))) (Ok text) → text ≡ written_text (far_trace split lanes level plan.cycles rows)
            same e = cc
        by_rows (Err reason) found =
            let e : ◌≡◌ {A = Result (List ℕ) Undriven} (Err reason) (Ok text) =
            sym (ap (λ (r : Result (List Cycle) Undriven). r >>= λ all. Ok (written_text (far_trace split lanes level plan.cycles all))) (streams-are ∙ found)) ∙ made in cc

    -- ---- the port at the far side

    module _ (far : PlainSplit) (alike : IsFarSplit split far lanes level) (multiple : is_multiple (far_params lanes level stream.params) (items_on split value 0 stream) ≡ true) where
      far-streams : far.streams ≡ far_stream lanes level stream ∷ []
      far-streams = alike.streams ∙ ap (map (far_stream lanes level)) is.streams

      abbrev run : StreamRun
      run = far_run split value plan.cycles stream one lanes level is.some is.on is.fits may.shape is.high multiple

      abbrev plan_there : StreamPlan
      plan_there = far_one split value plan.cycles stream one lanes level is.some is.on is.fits may.shape is.high multiple

      far-items : items_on far value 0 (far_stream lanes level stream) ≡ items_on split value 0 stream
      far-items = ap (items_in stream.params.dims) (alike.views value 0)

      far-runs : runs_of far value (plan_there ∷ []) ≡ Ok (run ∷ [])
      far-runs =
          ap (λ (l : List Phys). runs_from far value 0 l (plan_there ∷ [])) far-streams
          ∙ ap (λ (l : List Item). run_unless 0 (far_params lanes level stream.params) l plan_there >>= λ one_run. Ok (one_run ∷ [])) far-items
          ∙ ap (λ (b : Bool). (if b then Ok run else Err (CountNotMultiple 0 (length (items_on split value 0 stream)) lanes)) >>= λ one_run. Ok (one_run ∷ [])) multiple

      module _ (over : undone_far stream.params (far_params lanes level stream.params) (planned_run stream.params (items_on split value 0 stream) one).transfers one.gaps one.ready ≡ 0) where
        far-drives : drive_of far value (plan_there ∷ []) ≡ Ok (run ∷ [])
        far-drives =
            let none : left_of run ≡ 0 = far-left split value plan.cycles stream one lanes level is.some is.on is.fits may.shape is.high multiple ∙ over in
            let test : (left_of run == 0) ≡ true = grind (arith, nat_tests) in
            ap (λ (r : Result (List StreamRun) Undriven). r >>= λ runs. finished_from 0 runs runs) far-runs
            ∙ ap (λ (b : Bool). if b then finished_from 1 (run ∷ []) [] else Err (NotFinished 0 (left_of run))) test

        abbrev there : Plan
        there = record { cycles = plan.cycles; streams = plan_there ∷ [] }

        trace-is : trace_of far plan.cycles (run ∷ []) ≡ far_trace split lanes level plan.cycles (far_here split value plan.cycles stream one lanes level)
        trace-is =
            ap (λ (l : List Phys). record { cycles = plan.cycles; heads = map head_of_stream l; rows = rows_from (run ∷ []) 0 plan.cycles }) alike.streams
            ∙ ap (λ (rows : List Cycle). record { cycles = plan.cycles; heads = heads_of (far_split split lanes level); rows = rows })
            (far-rows split value plan.cycles stream one lanes level is.some is.on is.fits may.shape is.high multiple)

        far-text : drive_text far value there ≡ Ok (written_text (far_trace split lanes level plan.cycles (far_here split value plan.cycles stream one lanes level)))
        far-text =
            ap (λ (r : Result (List StreamRun) Undriven). r >>= λ runs. Ok (written_text (trace_of far plan.cycles runs))) far-drives
            ∙ ap (λ (t : TraceText). Ok (written_text t)) trace-is

        far-fits : FitsPort far.streams there
        far-fits = record {
          cycles = may.drives.plan_fits.cycles;
          each = subst (λ (l : List Phys). FitEach plan.cycles l (plan_there ∷ [])) (sym far-streams) (
            record {
              gaps = All-weaker (λ gap. gap ≤ plan.cycles) (λ gap. gap ≤ most_cycles) (λ gap few. let most = may.drives.plan_fits.cycles in omega (arith, few, most)) plan_there.gaps
                  (far-gaps split value plan.cycles stream one lanes level is.some is.on is.fits may.shape is.high multiple);
              ready = is.fits.long;
              wishes = All-nil (λ wish. wish.mask < 2 ^ lanes);
              users = All-nil (λ user. length user ≡ stream.params.user);
            },
            tt,
          );
        }

        pub driven-as : (text : List ℕ) → text ≡ written_text (far_trace split lanes level plan.cycles (far_here split value plan.cycles stream one lanes level)) → IsDrivenAs far value plan text
        driven-as text same = record {
          other = there;
          plain = record { cycles = refl; old = one; old_one = is.plans; new = plan_there; new_one = refl; ready = refl; no_wishes = refl; no_users = refl };
          fits = far-fits;
          text_is = far-text ∙ ap Ok (sym same);
          may = λ port. record {
            port = port;
            heads = subst (λ (l : List Phys). All IsHead (map head_of_stream l)) (sym alike.streams) (heads-far lanes level split.streams may.shape may.drives.heads);
            value_fits = alike.fits value ∙ may.drives.value_fits;
            plan_fits = far-fits;
          };
        }

pub reshaped_texts_are_driven : ReshapedTextsAreDriven
reshaped_texts_are_driven split far value plan lanes level text may alike made =
    driven-as split value plan lanes level may stream plan_one.0 is far alike found.far found.over text (rows.2 ∙ ap (λ (l : List Cycle). written_text (far_trace split lanes level plan.cycles l)) found.rows_are)
  where
    stream : Phys
    stream = may.port.stream

    plan_one : (one : StreamPlan) × (plan.streams ≡ one ∷ []) × FitsStream plan.cycles stream.params one
    plan_one = one-plan plan.cycles stream plan.streams (subst (λ (l : List Phys). FitEach plan.cycles l plan.streams) may.port.one may.drives.plan_fits.each)

    is : IsOne split value plan lanes level stream plan_one.0
    is = is-one split value plan lanes level may stream plan_one.0 may.port.one plan_one.1

    rows : (rows : List Cycle) × (reshape_items stream.params (far_params lanes level stream.params) (items_on split value 0 stream) plan_one.0 ≡ Ok rows) × (text ≡ written_text (far_trace split lanes level plan.cycles rows))
    rows = rows-of split value plan lanes level may stream plan_one.0 is text made

    found : IsReshapedTo stream.params (far_params lanes level stream.params) (items_on split value 0 stream) plan_one.0 rows.0
    found = reshaped-to stream.params (far_params lanes level stream.params) (items_on split value 0 stream) plan_one.0 rows.0 rows.1

pub ready_sources_reshape : ReadySourcesReshape
ready_sources_reshape split value plan lanes level stream one source may streams plans made ready =
    subst (λ (s : StreamRun). reshape_text split value plan lanes level ≡ Ok (written_text (far_trace split lanes level plan.cycles (far_of s.params (far_params lanes level s.params) s.transfers s.gaps s.ready))))
    (sym is_source.1)
    (text-of split value plan lanes level may stream one is (far_here split value plan.cycles stream one lanes level)
    (far-made stream.params (far_params lanes level stream.params) (items_on split value 0 stream) one near (made ∙ ap Ok is_source.1) over))
  where
    near : StreamRun
    near = planned_run stream.params (items_on split value 0 stream) one

    is : IsOne split value plan lanes level stream one
    is = is-one split value plan lanes level may stream one streams plans

    is_source : (is_multiple (far_params lanes level stream.params) (items_on split value 0 stream) ≡ true) × (source ≡ planned_run stream.params (items_on split value 0 stream) one)
    is_source = source-made stream.params (far_params lanes level stream.params) (items_on split value 0 stream) one source made

    over : undone_far stream.params (far_params lanes level stream.params) near.transfers one.gaps one.ready ≡ 0
    over =
        reshaping_finishes stream.params (far_params lanes level stream.params) near.transfers one.gaps one.ready
        (can-reshape split value plan.cycles stream one lanes level is.some is.on is.fits may.shape is.high is_source.0)
        (subst (HasFarReadyBits lanes level) is_source.1 ready)
