-- The trace of a port at its sinks, before its first row.
use Rattle.std.proofs.Common.{◌≡◌, ◌∙◌, ℕ, zero, suc, ◌+◌, List, ◌++◌, length, map, Ok, Err, Result, IfOk, refl, sym, ap, subst, arith}
use Rattle.tydi_base.specs.Reading.{Gives}
use Rattle.physical_stream.specs.Params.{Parameters}
use Rattle.physical_stream.specs.Cycles.{Cycle}
use Rattle.cycle_trace.specs.Spelling.{header_text}
use Rattle.cycle_trace.specs.Trace.{params_of_heads}
use Rattle.cycle_trace.specs.Version.{version_of}
use Rattle.logical_value.specs.Tree.{Tree}
use Rattle.type_split.specs.Streams.{PlainSplit}
use Rattle.type_split.specs.declared.split.Phys.{Phys}
use Rattle.plan_text.specs.declared.plan.Plan.{Plan}
use Rattle.handshake.specs.Rows as port
use Rattle.handshake.specs.Rows.{StreamRun, undone_in}
use Rattle.handshake.specs.declared.feed.TransferFeed.{Ghosts}
use Rattle.net_text.specs.declared.net.NetPlan.{NetPlan}
use Rattle.elastic_net.specs.Nets.{ChainRun, chains_of, left_of_chains, sink_rows, sink_rows_after}
use Rattle.elastic_net.specs.declared.elastic_run.ElasticRun.{ElasticRun}
use Rattle.scheduler.specs.declared.planner.Planner.{Planner}
use Rattle.trace_pieces.specs.Rows.{AreShownFrom, rows_from}
use Rattle.port_drive.specs.Drives.{head_of_stream, heads_of, runs_of}
use Rattle.port_drive.specs.Faults.{reason_in}
use Rattle.port_drive.specs.Finishing.{Finishes}
use Rattle.port_drive.specs.declared.fault.DriveFault.{DriveFault}
use Rattle.port_drive.proofs.TextLemmas.{can-drive, traced}
use Rattle.port_elastic.specs.Elastic.{chains_on, elastic_text}
use Rattle.port_elastic.specs.Laws.{MayFlow}
use Rattle.port_elastic.specs.PortText.{all_rows, rows_left}
use Rattle.port_elastic.specs.Starting.{StandsAtStart, chains_of_net, runs_of_net, stages_of_net}
use Rattle.port_elastic.proofs.ElasticLemmas.{elastic-same, measured-too, other, other-may, other-runs, replay, rows-are}
use Rattle.port_elastic.proofs.SinkLemmas.{regapped}

module _ {T : Ghosts Planner} (cycles : ℕ) (run : ElasticRun Planner T) (start : StandsAtStart {T = T} cycles run) where
  first-rows : (chains : List ChainRun) (many : ℕ) → sink_rows_after chains 0 0 many ≡ sink_rows chains 0 many
  first-rows chains zero = refl
  first-rows chains (suc many) = refl

  -- all rows are left
  pub left-rows : rows_left {T = T} run ≡ sink_rows (chains_of_net {T = T} run) 0 cycles
  left-rows =
      ap (λ (s : ℕ). sink_rows_after (chains_of_net {T = T} run) s run.number run.many) start.stream
      ∙ ap (λ (n : ℕ). sink_rows_after (chains_of_net {T = T} run) 0 n run.many) start.number
      ∙ ap (λ (m : ℕ). sink_rows_after (chains_of_net {T = T} run) 0 0 m) start.many
      ∙ first-rows (chains_of_net {T = T} run) cycles

  pub left-all : rows_left {T = T} run ≡ all_rows {T = T} run
  left-all = let many : cycles ≡ run.number + run.many = omega (arith, start.number, start.many) in left-rows ∙ ap (λ (m : ℕ). sink_rows (chains_of_net {T = T} run) 0 m) many

module _ {T : Ghosts Planner} (split : PlainSplit) (value : List (List Tree)) (plan : Plan) (net : NetPlan) (run : ElasticRun Planner T) (start : StandsAtStart {T = T} plan.cycles run) (may : MayFlow split value plan net)
    (made : runs_of split value plan.streams ≡ Ok (runs_of_net {T = T} run)) (staged : stages_of_net {T = T} run ≡ net.stages) (ordered : run.orders ≡ net.orders) (streams : List Parameters) (slice : List Phys)
    (streams_are : streams ≡ params_of_heads (map head_of_stream slice)) (same : slice ≡ split.streams) where
  chains-are : chains_of_net {T = T} run ≡ chains_on (runs_of_net {T = T} run) net
  chains-are = ap (λ (s : List (List ℕ)). chains_of (runs_of_net {T = T} run) s run.orders) staged ∙ ap (chains_of (runs_of_net {T = T} run) net.stages) ordered

  gaps : List (List ℕ)
  gaps = (replay split value plan net may (runs_of_net {T = T} run) made).gaps

  params : streams ≡ params_of_heads (heads_of split)
  params = streams_are ∙ ap (λ (l : List Phys). params_of_heads (map head_of_stream l)) same

  rows-so : rows_left {T = T} run ≡ port.rows_from (regapped (runs_of_net {T = T} run) gaps) 0 plan.cycles
  unfolding gaps
  rows-so = left-rows {T = T} plan.cycles run start ∙ ap (λ (cs : List ChainRun). sink_rows cs 0 plan.cycles) chains-are ∙ rows-are split value plan net may (runs_of_net {T = T} run) made

  left-so : left_of_chains (chains_of_net {T = T} run) ≡ undone_in (regapped (runs_of_net {T = T} run) gaps)
  unfolding gaps
  left-so = ap left_of_chains chains-are ∙ (replay split value plan net may (runs_of_net {T = T} run) made).left

  pub run-shown : AreShownFrom streams 0 (rows_left {T = T} run)
  unfolding gaps
  run-shown =
      subst (λ (rows : List Cycle). AreShownFrom streams 0 rows) (sym rows-so)
      (subst (λ (ps : List Parameters). AreShownFrom ps 0 (port.rows_from (regapped (runs_of_net {T = T} run) gaps) 0 plan.cycles)) (sym params)
      (measured-too split value plan net may (runs_of_net {T = T} run) made).shown)

  pub run-many : length streams ≡ length (left_of_chains (chains_of_net {T = T} run))
  unfolding gaps
  run-many = ap length params ∙ (measured-too split value plan net may (runs_of_net {T = T} run) made).many ∙ ap length (sym left-so)

  pub run-traced : {X : Type 0} (view : X → List ℕ) (header : List ℕ) (others : List Phys) (result : Result X DriveFault) → others ≡ split.streams → header ≡ header_text (version_of (map head_of_stream others)) plan.cycles (map head_of_stream others)
      → Finishes (left_of_chains (chains_of_net {T = T} run)) result → IfOk result (λ x. view x ≡ header ++ rows_from streams 0 (rows_left {T = T} run)) → Gives reason_in view result (elastic_text split value plan net)
  unfolding gaps other
  run-traced view header others result others_same header_is finishes text =
      subst (λ (r : Result (List ℕ) _). Gives reason_in view result r) (sym (elastic-same split value plan net may (runs_of_net {T = T} run) made))
      (traced split value (other split value plan net may (runs_of_net {T = T} run) made) (regapped (runs_of_net {T = T} run) gaps)
      (can-drive split value (other split value plan net may (runs_of_net {T = T} run) made) (other-may split value plan net may (runs_of_net {T = T} run) made))
      (other-runs split value plan net may (runs_of_net {T = T} run) made) view header (rows_left {T = T} run) result
      (header_is ∙ ap (λ (l : List Phys). header_text (version_of (map head_of_stream l)) plan.cycles (map head_of_stream l)) others_same)
      rows-so (subst (λ (l : List ℕ). Finishes l result) left-so finishes) (if-params result text))
    where
      if-params : (r : Result _ DriveFault) → IfOk r (λ x. view x ≡ header ++ rows_from streams 0 (rows_left {T = T} run))
          → IfOk r (λ x. view x ≡ header ++ rows_from (params_of_heads (heads_of split)) 0 (rows_left {T = T} run))
      if-params (Ok x) is = is ∙ ap (λ (ps : List Parameters). header ++ rows_from ps 0 (rows_left {T = T} run)) params
      if-params (Err fault) is = tt
