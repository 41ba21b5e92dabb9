-- The trace at the far side before its first row.
use Rattle.std.proofs.Common.{◌≡◌, ◌∙◌, ℕ, ◌≤◌, ◌==◌, Bool, true, false, if◌then◌else◌, List, [], ◌∷◌, ◌++◌, length, map, drop, get_or, slice_get, Option, Some, None, Result, Ok, Err, IfOk, IsErrAnd, MatchOption, refl, sym, ap, subst, arith}
use Rattle.std.proofs.lemmas.Bool.Decides.{nat_tests}
use Rattle.tydi_base.specs.Level.{IsLevel, LevelNumbers}
use Rattle.tydi_base.specs.Reading.{Gives, ◌>>=◌}
use Rattle.physical_stream.specs.Params.{Parameters}
use Rattle.physical_stream.specs.Cycles.{Cycle}
use Rattle.physical_stream.specs.declared.head.Head.{Head}
use Rattle.physical_stream.specs.declared.item.Item.{Item}
use Rattle.cycle_trace.specs.Spelling.{header_text}
use Rattle.cycle_trace.specs.Trace.{AreShown, owed, params_of_heads}
use Rattle.cycle_trace.specs.Version.{version_of}
use Rattle.logical_value.specs.Fits.{fits_split}
use Rattle.logical_value.specs.Tree.{Tree}
use Rattle.nest_shape.specs.Flat.{flat_all}
use Rattle.nest_shape.specs.Tree as nests
use Rattle.value_views.specs.Views.{view_of_stream}
use Rattle.type_split.specs.Streams.{IsPortSplit, PlainSplit}
use Rattle.type_split.specs.declared.split.Phys.{Phys}
use Rattle.plan_text.specs.Laws.{FitsPort}
use Rattle.plan_text.specs.declared.plan.Plan.{Plan}
use Rattle.plan_text.specs.declared.plan.StreamPlan.{StreamPlan}
use Rattle.handshake.specs.Rows.{StreamRun}
use Rattle.handshake.specs.declared.feed.TransferFeed.{Ghosts}
use Rattle.scheduler.specs.declared.planner.Planner.{Planner}
use Rattle.trace_pieces.specs.Rows.{AreShownFrom, rows_from}
use Rattle.trace_pieces.proofs.LawLemmas.{rows-made, rows-spelled}
use Rattle.reshape.specs.Reshaping.{far_of, undone_far}
use Rattle.reshape.specs.Standing.{to_of}
use Rattle.reshape.specs.declared.reshape_run.ReshapeRun.{ReshapeRun}
use Rattle.port_drive.specs.Drives.{NotFinished, Undriven, head_of_stream, heads_of, is_multiple, items_on, planned_run}
use Rattle.port_drive.specs.Faults.{reason_in}
use Rattle.port_drive.specs.Finishing.{Finishes, unfinished_from}
use Rattle.port_drive.specs.Text.{AreHeadsInForm, written_text}
use Rattle.port_drive.specs.declared.fault.DriveFault.{DriveFault}
use Rattle.port_drive.proofs.StartLemmas.{items-seen}
use Rattle.port_reshape.specs.Far.{IsReshapable, far_params, far_split, far_stream}
use Rattle.port_reshape.specs.Laws.{MayReshape}
use Rattle.port_reshape.specs.Reshapes.{far_trace, far_unless, reshape_items, reshape_text, source_of}
use Rattle.port_reshape.specs.Starting.{CanPass, far_head, far_rows, left_in, rows_left, source_in}
use Rattle.port_reshape.proofs.FarLemmas.{far-shown, far_here}
use Rattle.port_reshape.proofs.OneLemmas.{far-made, source-made}
use Rattle.port_reshape.proofs.PortLemmas.{IsOne, is-one, streams-are, text-of}

-- the one stream of a port is its first
pub one-there : (streams slice : List Phys) (level : LevelNumbers) (stream : Phys) → slice ≡ streams → stream ≡ get_or slice 0 stream → IsReshapable streams level → streams ≡ stream ∷ []
one-there streams slice level stream same is port =
    let first : stream ≡ port.stream = is ∙ ap (λ (l : List Phys). get_or l 0 stream) (same ∙ port.one) in
    port.one ∙ ap (λ (s : Phys). s ∷ []) (sym first)

pub seen : (split : PlainSplit) (value : List (List Tree)) (stream : Phys) (all : List Item) → split.streams ≡ stream ∷ [] → IsPortSplit split → fits_split split value ≡ true
    → ((phys : Phys) (view : List nests.Tree) → slice_get split.streams 0 ≡ Some phys → view_of_stream split value 0 ≡ Some view → all ≡ flat_all phys.params.dims (nests.trees_of view))
    → all ≡ items_on split value 0 stream
seen split value stream all streams port fits are = items-seen split value 0 stream all port fits (ap (λ (l : List Phys). slice_get l 0) streams) are

pub may-reshape : (split : PlainSplit) (value : List (List Tree)) (plan : Plan) (lanes : ℕ) (level : LevelNumbers) → IsPortSplit split → AreHeadsInForm split → fits_split split value ≡ true → FitsPort split.streams plan
    → IsReshapable split.streams level → 1 ≤ lanes → lanes ≤ 128 → IsLevel level → MayReshape split value plan lanes level
may-reshape split value plan lanes level port heads value_fits plan_fits shape_fits some most is_level = record {
  drives = record { port = port; heads = heads; value_fits = value_fits; plan_fits = plan_fits };
  port = shape_fits;
  shape = record { some_lane = some; lanes_most = most; is_level = is_level };
}

-- ---- the items pass

module _ (split : PlainSplit) (value : List (List Tree)) (plan : Plan) (lanes : ℕ) (level : LevelNumbers) (may : MayReshape split value plan lanes level)
    (stream : Phys) (one : StreamPlan) (streams : split.streams ≡ stream ∷ []) (plans : plan.streams ≡ one ∷ [])
    (to : Parameters) (to_is : to ≡ far_params lanes level stream.params) (items : List Item) (items_are : items ≡ items_on split value 0 stream) where
  is : IsOne split value plan lanes level stream one
  is = is-one split value plan lanes level may stream one streams plans

  pub can-pass : CanPass stream.params to items one
  can-pass =
      subst (λ (p : Parameters). CanPass stream.params p items one) (sym to_is)
      (subst (λ (l : List Item). CanPass stream.params (far_params lanes level stream.params) l one) (sym items_are)
      (record { some = is.some; some_far = may.shape.some_lane; dims = refl; element = refl; no_user = is.no_user; fit = is.on.are; nested = is.on.whole.nested; whole = is.on.whole.whole; masks = is.fits.masks; users = is.fits.users }))

  -- what is said of the source in the words of the port
  source-same : (r : Result StreamRun Undriven) → source_of stream.params to items one ≡ r → source_of stream.params (far_params lanes level stream.params) (items_on split value 0 stream) one ≡ r
  source-same r so =
      ap (λ (l : List Item). source_of stream.params (far_params lanes level stream.params) l one) (sym items_are)
      ∙ ap (λ (p : Parameters). source_of stream.params p items one) (sym to_is) ∙ so

  no-text : (reason : Undriven) → reshape_items stream.params (far_params lanes level stream.params) (items_on split value 0 stream) one ≡ Err reason → reshape_text split value plan lanes level ≡ Err reason
  no-text reason so =
      ap (λ (r : Result (List Cycle) Undriven). r >>= λ all. Ok (written_text (far_trace split lanes level plan.cycles all))) (streams-are split value plan lanes level may stream one is ∙ so)

  pub run-err : {X : Type 0} (view : X → List ℕ) (result : Result X DriveFault) (fault : DriveFault) → IsErrAnd result (λ e. e ≡ fault)
      → MatchOption (reason_in fault) (Unit {0}) (λ reason. source_of stream.params to items one ≡ Err reason) → Gives reason_in view result (reshape_text split value plan lanes level)
  run-err view (Ok x) fault so why = absurd so
  run-err view (Err e) fault so why = subst (λ (f : DriveFault). MatchOption (reason_in f) (Unit {0}) (λ reason. reshape_text split value plan lanes level ≡ Err reason)) (sym so) (by_reason (reason_in fault) why)
    where
      by_reason : (found : Option Undriven) → MatchOption found (Unit {0}) (λ reason. source_of stream.params to items one ≡ Err reason) → MatchOption found (Unit {0}) (λ reason. reshape_text split value plan lanes level ≡ Err reason)
      by_reason None w = tt
      by_reason (Some reason) w = no-text reason (ap (λ (r : Result StreamRun Undriven). r >>= far_unless (far_params lanes level stream.params)) (source-same (Err reason) w))

  -- ---- the run

  module _ {T : Ghosts Planner} (run : ReshapeRun Planner T) (made : source_of stream.params to items one ≡ Ok (source_in {T = T} run)) (run_to : to_of run.reshaper ≡ to) (first : run.number ≡ 0) where
    source : StreamRun
    source = planned_run stream.params (items_on split value 0 stream) one

    made_here : source_of stream.params (far_params lanes level stream.params) (items_on split value 0 stream) one ≡ Ok (source_in {T = T} run)
    made_here = source-same (Ok (source_in {T = T} run)) made

    is_source : (is_multiple (far_params lanes level stream.params) (items_on split value 0 stream) ≡ true) × (source_in {T = T} run ≡ planned_run stream.params (items_on split value 0 stream) one)
    is_source = source-made stream.params (far_params lanes level stream.params) (items_on split value 0 stream) one (source_in {T = T} run) made_here

    rows-are : far_rows {T = T} run ≡ far_here split value plan.cycles stream one lanes level
    rows-are =
        ap (λ (p : Parameters). far_of (source_in {T = T} run).params p (source_in {T = T} run).transfers (source_in {T = T} run).gaps (source_in {T = T} run).ready) (run_to ∙ to_is)
        ∙ ap (λ (s : StreamRun). far_of s.params (far_params lanes level stream.params) s.transfers s.gaps s.ready) is_source.1

    left-are : rows_left {T = T} run ≡ far_here split value plan.cycles stream one lanes level
    left-are = ap (λ (n : ℕ). drop n (far_rows {T = T} run)) first ∙ rows-are

    -- the heads of the far side
    heads-are : heads_of (far_split split lanes level) ≡ far_head stream to ∷ []
    heads-are =
        ap (λ (l : List Phys). map head_of_stream (map (far_stream lanes level) l)) streams
        ∙ ap (λ (p : Parameters). far_head stream p ∷ []) (sym to_is)

    shown-here : AreShown (owed (far_params lanes level stream.params ∷ []) plan.cycles) (far_here split value plan.cycles stream one lanes level)
    shown-here = far-shown split value plan.cycles stream one lanes level is.some is.on is.fits may.shape is.high is_source.0

    module _ (params : List Parameters) (params_are : params ≡ to ∷ []) where
      pub rows-shown : AreShownFrom params 0 (rows_left {T = T} run)
      rows-shown =
          subst (λ (l : List Cycle). AreShownFrom params 0 l) (sym left-are)
          (subst (λ (ps : List Parameters). AreShownFrom ps 0 (far_here split value plan.cycles stream one lanes level)) (sym (params_are ∙ ap (λ (p : Parameters). p ∷ []) to_is))
          (rows-made (far_params lanes level stream.params ∷ []) plan.cycles (far_here split value plan.cycles stream one lanes level) shown-here))

      -- the header and the rows are the text of the trace
      text-is : (header : List ℕ) → header ≡ header_text (version_of (far_head stream to ∷ [])) plan.cycles (far_head stream to ∷ [])
          → header ++ rows_from params 0 (rows_left {T = T} run) ≡ written_text (far_trace split lanes level plan.cycles (far_here split value plan.cycles stream one lanes level))
      text-is header header_is =
          ap (λ (l : List ℕ). l ++ rows_from params 0 (rows_left {T = T} run)) header_is
          ∙ ap (λ (heads : List Head). header_text (version_of heads) plan.cycles heads ++ rows_from params 0 (rows_left {T = T} run)) (sym heads-are)
          ∙ ap (λ (l : List ℕ). header_text (version_of (heads_of (far_split split lanes level))) plan.cycles (heads_of (far_split split lanes level)) ++ l)
          (ap (λ (ps : List Parameters). rows_from ps 0 (rows_left {T = T} run)) (params_are ∙ ap params_of_heads (sym heads-are))
          ∙ ap (rows_from (params_of_heads (heads_of (far_split split lanes level))) 0) left-are
          ∙ rows-spelled (params_of_heads (heads_of (far_split split lanes level))) plan.cycles (far_here split value plan.cycles stream one lanes level)
          (shown-here.many ∙ ap (λ (ps : List Parameters). length (owed ps plan.cycles)) (ap (λ (p : Parameters). p ∷ []) (sym to_is) ∙ ap params_of_heads (sym heads-are))))

      -- how many far transfers are left, in the words of the port
      abbrev undone : ℕ
      undone = undone_far (source_in {T = T} run).params (far_params lanes level stream.params) (source_in {T = T} run).transfers (source_in {T = T} run).gaps (source_in {T = T} run).ready

      undone-is : left_in {T = T} run ≡ undone ∷ []
      undone-is = ap (λ (p : Parameters). undone_far (source_in {T = T} run).params p (source_in {T = T} run).transfers (source_in {T = T} run).gaps (source_in {T = T} run).ready ∷ []) (run_to ∙ to_is)

      pub traced : {X : Type 0} (view : X → List ℕ) (header : List ℕ) (result : Result X DriveFault) → header ≡ header_text (version_of (far_head stream to ∷ [])) plan.cycles (far_head stream to ∷ [])
          → Finishes (left_in {T = T} run) result → IfOk result (λ x. view x ≡ header ++ rows_from params 0 (rows_left {T = T} run)) → Gives reason_in view result (reshape_text split value plan lanes level)
      traced view header (Ok x) header_is finishes text =
          text-of split value plan lanes level may stream one is (far_here split value plan.cycles stream one lanes level)
          (far-made stream.params (far_params lanes level stream.params) (items_on split value 0 stream) one (source_in {T = T} run) made_here none ∙ ap Ok (
          ap (λ (s : StreamRun). far_of s.params (far_params lanes level stream.params) s.transfers s.gaps s.ready) is_source.1))
          ∙ ap Ok (sym (text ∙ text-is header header_is))
        where
          none : undone ≡ 0
          none = by_test (undone == 0) refl (ap (unfinished_from 0) (sym undone-is) ∙ finishes)
            where
              by_test : (test : Bool) → (undone == 0) ≡ test → (if test then unfinished_from 1 [] else Some (NotFinished 0 undone)) ≡ None → undone ≡ 0
              by_test true so e = grind (arith, nat_tests)
              by_test false so e = cc
      traced view header (Err fault) header_is finishes text = by_reason (reason_in fault) finishes
        where
          reason-is : (reason : Undriven) → unfinished_from 0 (left_in {T = T} run) ≡ Some reason → far_unless (far_params lanes level stream.params) (source_in {T = T} run) ≡ Err reason
          reason-is reason so = by_test (undone == 0) (ap (unfinished_from 0) (sym undone-is) ∙ so)
            where
              by_test : (test : Bool) → (if test then unfinished_from 1 [] else Some (NotFinished 0 undone)) ≡ Some reason →
                  (if test then Ok (far_of (source_in {T = T} run).params (far_params lanes level stream.params) (source_in {T = T} run).transfers (source_in {T = T} run).gaps (source_in {T = T} run).ready) else Err (NotFinished 0 undone)) ≡ Err reason
              by_test true e = cc
              by_test false e = let same : NotFinished 0 undone ≡ reason = cc in ap Err same

          by_reason : (found : Option Undriven) → MatchOption found ⊥ (λ reason. unfinished_from 0 (left_in {T = T} run) ≡ Some reason) → MatchOption found (Unit {0}) (λ reason. reshape_text split value plan lanes level ≡ Err reason)
          by_reason None why = tt
          by_reason (Some reason) why = no-text reason (ap (λ (r : Result StreamRun Undriven). r >>= far_unless (far_params lanes level stream.params)) made_here ∙ reason-is reason why)
