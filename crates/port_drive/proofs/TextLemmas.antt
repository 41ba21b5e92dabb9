-- The text of a driven port is that of its trace.
use Rattle.std.proofs.Common.{◌≡◌, ◌∙◌, ℕ, zero, suc, ◌≤◌, Bool, true, false, if◌then◌else◌, List, [], ◌∷◌, ◌++◌, map, slice_get, Option, Some, None, Result, Ok, Err, MatchOption, IfOk, All, refl, sym, ap, subst}
use Rattle.std.proofs.lemmas.List.Elements.{All-head, All-tail}
use Rattle.tydi_base.specs.Reading.{Gives, ◌>>=◌}
use Rattle.physical_stream.specs.Cycles.{Cycle}
use Rattle.physical_stream.specs.StreamLine.{IsHead}
use Rattle.physical_stream.specs.declared.head.Head.{Head}
use Rattle.cycle_trace.specs.Spelling.{header_text}
use Rattle.cycle_trace.specs.Trace.{params_of_heads}
use Rattle.cycle_trace.specs.TraceText as reading
use Rattle.cycle_trace.specs.Version.{may_have, version_of}
use Rattle.cycle_trace.specs.declared.version.Version.TheVariants.{One, Two}
use Rattle.cycle_trace.proofs.TraceSpelling.{trace_of-spelled}
use Rattle.logical_value.specs.Tree.{Tree}
use Rattle.type_split.specs.Streams.{PlainSplit}
use Rattle.type_split.specs.declared.split.Phys.{Phys}
use Rattle.plan_text.specs.declared.plan.Plan.{Plan}
use Rattle.handshake.specs.Rows as port
use Rattle.handshake.specs.Rows.{StreamRun, undone_in}
use Rattle.trace_pieces.specs.Rows.{rows_from}
use Rattle.trace_pieces.proofs.LawLemmas.{rows-spelled}
use Rattle.trace_pieces.proofs.RunLemmas.{runs-shown}
use Rattle.port_drive.specs.Drives.{Undriven, drive_of, head_of_stream, heads_of, runs_of}
use Rattle.port_drive.specs.Faults.{reason_in}
use Rattle.port_drive.specs.Finishing.{Finishes, finishing, unfinished_from}
use Rattle.port_drive.specs.Laws.{CanBeDriven, trace_of}
use Rattle.port_drive.specs.Text.{DrivenTextsAreTraces, IsDrivenText, MayDrive, drive_text, written_text}
use Rattle.port_drive.specs.declared.fault.DriveFault.{DriveFault}
use Rattle.port_drive.proofs.DrivenLemmas.{are-runs, is-driven}
use Rattle.port_drive.proofs.FinishLemmas.{runs-finish}
use Rattle.port_drive.proofs.HeadLemmas.{heads-together}
use Rattle.port_drive.proofs.WordLemmas.{words-have-values}

-- ---- ports whose heads are in form

-- each stream of these heads has a lane
lanes-of : (streams : List Phys) → All IsHead (map head_of_stream streams) → (number : ℕ) (stream : Phys) → slice_get streams number ≡ Some stream → 1 ≤ stream.params.lanes
lanes-of [] all number stream there = cc
lanes-of (one ∷ more) all zero stream there =
    let same : one ≡ stream = cc in
    subst (λ (s : Phys). 1 ≤ s.params.lanes) same (All-head IsHead (head_of_stream one) (map head_of_stream more) all).range.some_lane
lanes-of (one ∷ more) all (suc number) stream there = lanes-of more (All-tail IsHead (head_of_stream one) (map head_of_stream more) all) number stream there

pub can-drive : (split : PlainSplit) (value : List (List Tree)) (plan : Plan) → MayDrive split value plan → CanBeDriven split value plan
can-drive split value plan may = record { port = may.port; lanes = lanes-of split.streams may.heads; value_fits = may.value_fits; plan_fits = may.plan_fits }

-- ---- the text

-- the header and the rows are the text of the trace
pub text-is : (split : PlainSplit) (value : List (List Tree)) (plan : Plan) (runs : List StreamRun) → CanBeDriven split value plan → runs_of split value plan.streams ≡ Ok runs
    → header_text (version_of (heads_of split)) plan.cycles (heads_of split) ++ rows_from (params_of_heads (heads_of split)) 0 (port.rows_from runs 0 plan.cycles) ≡ written_text (trace_of split plan.cycles runs)
text-is split value plan runs can made =
    ap (λ (l : List ℕ). header_text (version_of (heads_of split)) plan.cycles (heads_of split) ++ l)
    (rows-spelled (params_of_heads (heads_of split)) plan.cycles (port.rows_from runs 0 plan.cycles) (runs-shown plan.cycles (heads_of split) runs (are-runs split value plan runs can made)).many)

-- any heads may stand in the version in which they are written
any-level : (heads : List Head) → may_have Two heads ≡ true
any-level [] = refl
any-level (head ∷ heads) = any-level heads

pub version-fits : (heads : List Head) → may_have (version_of heads) heads ≡ true
version-fits heads = by_test (may_have One heads) refl
  where
    by_test : (test : Bool) → may_have One heads ≡ test → may_have (if test then One else Two) heads ≡ true
    by_test true is = is
    by_test false is = any-level heads

pub texts-are : DrivenTextsAreTraces
texts-are split value plan text may is = by (drive_of split value plan.streams) refl is
  where
    by : (driven : Result (List StreamRun) Undriven) → drive_of split value plan.streams ≡ driven → (driven >>= λ runs. Ok (written_text (trace_of split plan.cycles runs))) ≡ Ok text → IsDrivenText split value plan text
    by (Ok runs) drives written =
        let driven = is-driven split value plan runs (can-drive split value plan may) drives in
        let is_trace = driven.is_trace (heads-together split may.port may.heads) in
        let same : text ≡ written_text (trace_of split plan.cycles runs) = same-ok (written_text (trace_of split plan.cycles runs)) written in
        record {
          runs = runs;
          drives = drives;
          driven = driven;
          words = words-have-values split value plan runs (can-drive split value plan may) drives;
          is_trace = is_trace;
          text_is = same;
          read = ap reading.trace_of same ∙ trace_of-spelled (version_of (heads_of split)) (trace_of split plan.cycles runs) is_trace may.heads (version-fits (heads_of split));
        }
      where
        same-ok : (other : List ℕ) → ◌≡◌ {A = Result (List ℕ) Undriven} (Ok other) (Ok text) → text ≡ other
        same-ok other is = cc
    by (Err reason) drives written = cc

-- ---- the result of a call

module _ (split : PlainSplit) (value : List (List Tree)) (plan : Plan) where
  module _ (runs : List StreamRun) (can : CanBeDriven split value plan) (made : runs_of split value plan.streams ≡ Ok runs) where
    -- the text or the reason, as the first stream that leaves transfers says, if any
    finished-text : (unfinished : Option Undriven) → unfinished_from 0 (undone_in runs) ≡ unfinished
        → drive_text split value plan ≡ (finishing runs unfinished >>= λ driving. Ok (written_text (trace_of split plan.cycles driving)))
    finished-text unfinished is =
        ap (λ (r : Result (List StreamRun) Undriven). r >>= λ driving. Ok (written_text (trace_of split plan.cycles driving)))
        (runs-finish split value plan.streams runs made ∙ ap (finishing runs) is)

    none-driven : (found : Option Undriven) → MatchOption found ⊥ (λ reason. unfinished_from 0 (undone_in runs) ≡ Some reason)
        → MatchOption found (Unit {0}) (λ reason. drive_text split value plan ≡ Err reason)
    none-driven None why = tt
    none-driven (Some reason) why = finished-text (Some reason) why

    -- a trace whose text is that of the header and of all rows is the trace that drives the port
    pub traced : {X : Type 0} (view : X → List ℕ) (header : List ℕ) (rows : List Cycle) (result : Result X DriveFault) → header ≡ header_text (version_of (heads_of split)) plan.cycles (heads_of split)
        → rows ≡ port.rows_from runs 0 plan.cycles → Finishes (undone_in runs) result → IfOk result (λ x. view x ≡ header ++ rows_from (params_of_heads (heads_of split)) 0 rows)
        → Gives reason_in view result (drive_text split value plan)
    traced view header rows (Ok x) header_is rows_are finishes text =
        finished-text None finishes
        ∙ ap Ok (sym (text ∙ ap (λ (l : List ℕ). l ++ rows_from (params_of_heads (heads_of split)) 0 rows) header_is
        ∙ ap (λ (l : List Cycle). header_text (version_of (heads_of split)) plan.cycles (heads_of split) ++ rows_from (params_of_heads (heads_of split)) 0 l) rows_are
        ∙ text-is split value plan runs can made))
    traced view header rows (Err fault) header_is rows_are finishes text = none-driven (reason_in fault) finishes
