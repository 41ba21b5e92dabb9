-- The trace of a port before its first row.
use Rattle.std.proofs.Common.{◌≡◌, ◌∙◌, ℕ, zero, suc, ◌+◌, List, ◌++◌, length, map, Ok, Err, Result, IfOk, refl, sym, ap, subst, arith}
use Rattle.tydi_base.specs.Reading.{Gives}
use Rattle.physical_stream.specs.Params.{Parameters}
use Rattle.physical_stream.specs.Cycles.{Cycle}
use Rattle.cycle_trace.specs.Spelling.{header_text}
use Rattle.cycle_trace.specs.Trace.{params_of_heads}
use Rattle.cycle_trace.specs.Version.{version_of}
use Rattle.logical_value.specs.Tree.{Tree}
use Rattle.type_split.specs.Streams.{PlainSplit}
use Rattle.type_split.specs.declared.split.Phys.{Phys}
use Rattle.plan_text.specs.declared.plan.Plan.{Plan}
use Rattle.handshake.specs.Rows as port
use Rattle.handshake.specs.Rows.{StreamRun, undone_in}
use Rattle.handshake.specs.declared.feed.TransferFeed.{Ghosts}
use Rattle.handshake.specs.declared.port_run.PortRun.{PortRun}
use Rattle.scheduler.specs.declared.planner.Planner.{Planner}
use Rattle.trace_pieces.specs.Rows.{AreShownFrom, rows_from}
use Rattle.port_drive.specs.Drives.{head_of_stream, heads_of, runs_of}
use Rattle.port_drive.specs.Faults.{reason_in}
use Rattle.port_drive.specs.Finishing.{Finishes}
use Rattle.port_drive.specs.PortText.{all_rows, rows_left}
use Rattle.port_drive.specs.Starting.{StandsAtStart, runs_of_port}
use Rattle.port_drive.specs.Text.{MayDrive, drive_text}
use Rattle.port_drive.specs.declared.fault.DriveFault.{DriveFault}
use Rattle.port_drive.proofs.DrivenLemmas.{can-be-measured}
use Rattle.port_drive.proofs.TextLemmas.{can-drive, traced}

module _ {T : Ghosts Planner} (cycles : ℕ) (run : PortRun Planner T) (start : StandsAtStart cycles run) where
  first-rows : (runs : List StreamRun) (many : ℕ) → port.rows_after runs 0 0 many ≡ port.rows_from runs 0 many
  first-rows runs zero = refl
  first-rows runs (suc many) = refl

  -- all rows are left
  pub left-rows : rows_left {T = T} run ≡ port.rows_from (runs_of_port {T = T} run) 0 cycles
  left-rows =
      ap (λ (s : ℕ). port.rows_after (runs_of_port {T = T} run) s run.number run.many) start.stream
      ∙ ap (λ (n : ℕ). port.rows_after (runs_of_port {T = T} run) 0 n run.many) start.number
      ∙ ap (λ (m : ℕ). port.rows_after (runs_of_port {T = T} run) 0 0 m) start.many
      ∙ first-rows (runs_of_port {T = T} run) cycles

  pub left-all : rows_left {T = T} run ≡ all_rows {T = T} run
  left-all = let many : cycles ≡ run.number + run.many = omega (arith, start.number, start.many) in left-rows ∙ ap (λ (m : ℕ). port.rows_from (runs_of_port {T = T} run) 0 m) many

module _ {T : Ghosts Planner} (split : PlainSplit) (value : List (List Tree)) (plan : Plan) (run : PortRun Planner T) (start : StandsAtStart plan.cycles run) (may : MayDrive split value plan)
    (made : runs_of split value plan.streams ≡ Ok (runs_of_port {T = T} run)) (streams : List Parameters) (slice : List Phys) (streams_are : streams ≡ params_of_heads (map head_of_stream slice)) (same : slice ≡ split.streams) where
  params : streams ≡ params_of_heads (heads_of split)
  params = streams_are ∙ ap (λ (l : List Phys). params_of_heads (map head_of_stream l)) same

  pub run-shown : AreShownFrom streams 0 (rows_left {T = T} run)
  run-shown =
      subst (λ (rows : List Cycle). AreShownFrom streams 0 rows) (sym (left-rows {T = T} plan.cycles run start))
      (subst (λ (ps : List Parameters). AreShownFrom ps 0 (port.rows_from (runs_of_port {T = T} run) 0 plan.cycles)) (sym params)
      (can-be-measured split value plan (runs_of_port {T = T} run) (can-drive split value plan may) made).shown)

  pub run-many : length streams ≡ length (undone_in (runs_of_port {T = T} run))
  run-many = ap length params ∙ (can-be-measured split value plan (runs_of_port {T = T} run) (can-drive split value plan may) made).many

  pub run-traced : {X : Type 0} (view : X → List ℕ) (header : List ℕ) (other : List Phys) (result : Result X DriveFault) → other ≡ split.streams → header ≡ header_text (version_of (map head_of_stream other)) plan.cycles (map head_of_stream other)
      → Finishes (undone_in (runs_of_port {T = T} run)) result → IfOk result (λ x. view x ≡ header ++ rows_from streams 0 (rows_left {T = T} run)) → Gives reason_in view result (drive_text split value plan)
  run-traced view header other result other_same header_is finishes text =
      traced split value plan (runs_of_port {T = T} run) (can-drive split value plan may) made view header (rows_left {T = T} run) result
      (header_is ∙ ap (λ (l : List Phys). header_text (version_of (map head_of_stream l)) plan.cycles (map head_of_stream l)) other_same)
      (left-rows {T = T} plan.cycles run start) finishes (if-params result text)
    where
      if-params : (r : Result _ DriveFault) → IfOk r (λ x. view x ≡ header ++ rows_from streams 0 (rows_left {T = T} run))
          → IfOk r (λ x. view x ≡ header ++ rows_from (params_of_heads (heads_of split)) 0 (rows_left {T = T} run))
      if-params (Ok x) is = is ∙ ap (λ (ps : List Parameters). header ++ rows_from ps 0 (rows_left {T = T} run)) params
      if-params (Err fault) is = tt
