-- Whether the runs of a port finish, by the transfers that they leave (this project's own).
use Rattle.std.specs.Prelude.{◌≡◌, ℕ, suc, ◌+◌, ◌≤◌, ◌==◌, if◌then◌else◌, List, [], ◌∷◌, length, slice_get, Option, Some, None, Result, Ok, Err, MatchOption}
use Rattle.type_split.specs.Streams.{PlainSplit}
use Rattle.logical_value.specs.Tree.{Tree}
use Rattle.plan_text.specs.declared.plan.StreamPlan.{StreamPlan}
use Rattle.cycle_trace.specs.Trace.{params_of_heads}
use Rattle.handshake.specs.Laws.{gaps_below, ones_in}
use Rattle.handshake.specs.Rows.{StreamRun, rows_after, rows_from, undone_in}
use Rattle.plan_text.specs.declared.plan.Plan.{Plan}
use Rattle.trace_pieces.specs.Rows.{AreShownFrom}
use Rattle.port_drive.specs.Laws.{CanBeDriven}
use Rattle.port_drive.specs.Drives.{NotFinished, Undriven, drive_of, heads_of, runs_of}
use Rattle.port_drive.specs.Faults.{reason_in}
use Rattle.port_drive.specs.declared.fault.DriveFault.{DriveFault}

-- the first stream that leaves transfers, by how many each one leaves; the first of them has this number
abbrev pub unfinished_from : ℕ → List ℕ → Option Undriven
unfinished_from number [] = None
unfinished_from number (left ∷ more) = if left == 0 then unfinished_from (suc number) more else Some (NotFinished number left)

-- no stream leaves transfers, or this is the error of the first one that does
abbrev pub Finishes : {X : Type 0} → List ℕ → Result X DriveFault → Type 0
Finishes undone (Ok x) = unfinished_from 0 undone ≡ None
Finishes undone (Err fault) = MatchOption (reason_in fault) ⊥ (λ reason. unfinished_from 0 undone ≡ Some reason)

-- these runs drive a port, unless one of them is not finished
abbrev pub finishing : List StreamRun → Option Undriven → Result (List StreamRun) Undriven
finishing runs None = Ok runs
finishing runs (Some reason) = Err reason

-- runs that a value and a plan make drive the port exactly where none of them leaves transfers, and the first that does says why not
abbrev pub FinishedRunsDrive : Type 0
FinishedRunsDrive = (split : PlainSplit) (value : List (List Tree)) (plans : List StreamPlan) (runs : List StreamRun) →
    runs_of split value plans ≡ Ok runs → drive_of split value plans ≡ finishing runs (unfinished_from 0 (undone_in runs))

-- a run has as many ready bits that are 1 as it has transfers and cycles of effective gaps
abbrev pub HasReadyBits : StreamRun → Type 0
HasReadyBits run = length run.transfers + gaps_below run.params run.transfers run.gaps (length run.transfers) ≤ ones_in run.ready

-- runs that a value and a plan make drive the port where each of them has so many ready bits
abbrev pub ReadyRunsDrive : Type 0
ReadyRunsDrive = (split : PlainSplit) (value : List (List Tree)) (plans : List StreamPlan) (runs : List StreamRun) → runs_of split value plans ≡ Ok runs →
    ((number : ℕ) (run : StreamRun) → slice_get runs number ≡ Some run → HasReadyBits run) → drive_of split value plans ≡ Ok runs

-- the rows of these runs can be counted and written: each is of a stream of the split, and shows only what its stream can show; there is
-- a run for each stream; and no row has been made before the first cycle
pub record CanBeMeasured (split : PlainSplit) (cycles : ℕ) (runs : List StreamRun) : Type 0 where
  pub shown : AreShownFrom (params_of_heads (heads_of split)) 0 (rows_from runs 0 cycles)
  pub many : length (params_of_heads (heads_of split)) ≡ length (undone_in runs)
  pub first : rows_after runs 0 0 cycles ≡ rows_from runs 0 cycles

-- the runs that a value and a plan make can be measured, whether they finish or not
abbrev pub RunsCanBeMeasured : Type 0
RunsCanBeMeasured = (split : PlainSplit) (value : List (List Tree)) (plan : Plan) (runs : List StreamRun) →
    CanBeDriven split value plan → runs_of split value plan.streams ≡ Ok runs → CanBeMeasured split plan.cycles runs
