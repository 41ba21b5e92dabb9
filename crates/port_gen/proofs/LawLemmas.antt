-- The law of jobs.
use Rattle.std.proofs.Common.{◌≡◌, ◌∙◌, ℕ, zero, suc, ◌≤◌, nat_lt, Bool, true, false, if◌then◌else◌, List, [], ◌∷◌, length, map, replicate, take, inl, None, Some, Result, Ok, Err, refl, sym, ap, subst, arith}
use Rattle.std.specs.List.{slice_get, slice_index}
use Rattle.std.proofs.Math.Nat.{le-max_left, le-max_right}
use Rattle.std.proofs.lemmas.Bool.Decides.{nat_tests}
use Rattle.tydi_base.specs.Reading.{◌>>=◌}
use Rattle.physical_stream.specs.Params.{Parameters}
use Rattle.physical_stream.specs.First.{IsFirst}
use Rattle.physical_stream.specs.Items.{items_of_all}
use Rattle.physical_stream.specs.Shape.{tail_of}
use Rattle.physical_stream.specs.declared.item.Item.{Item}
use Rattle.physical_stream.specs.declared.transfer.Transfer.{Transfer}
use Rattle.complexity_rules.specs.Pauses.{pauses_after}
use Rattle.cycle_trace.specs.Surveying.{offends_in}
use Rattle.cycle_trace.specs.Trace.{TraceText, most_cycles, streams_of}
use Rattle.type_split.specs.Streams.{PlainSplit}
use Rattle.type_split.specs.declared.split.Phys.{Phys}
use Rattle.logical_value.specs.Tree.{Tree}
use Rattle.plan_text.specs.declared.plan.StreamPlan.{StreamPlan}
use Rattle.value_text.specs.Leaves.{most_leaves}
use Rattle.value_gen.specs.Leaves.{leaves_of_roots}
use Rattle.value_gen.specs.Made.{generated}
use Rattle.value_gen.proofs.FitLemmas.{generated-fits}
use Rattle.handshake.specs.Laws.{gaps_below, ones_in}
use Rattle.handshake.specs.Rows.{StreamRun}
use Rattle.handshake.specs.Run.{gap_of}
use Rattle.port_drive.specs.Drives.{Undriven, drive_of, items_on, is_multiple, planned_run, run_unless, runs_from, runs_of}
use Rattle.port_drive.specs.Drives as driving
use Rattle.port_drive.specs.Finishing.{HasReadyBits}
use Rattle.port_drive.specs.Laws.{IsDriven, trace_of}
use Rattle.port_drive.specs.Text.{AreHeadsInForm, MayDrive}
use Rattle.trace_pieces.proofs.RunLemmas.{mapped-from}
use Rattle.port_drive.proofs.DriveLemmas.{plans-fit, run-at}
use Rattle.port_drive.proofs.DrivenLemmas.{is-driven}
use Rattle.port_drive.proofs.FinishLemmas.{ready-drive}
use Rattle.port_drive.proofs.HeadLemmas.{heads-together}
use Rattle.port_drive.proofs.TextLemmas.{can-drive}
use Rattle.trace_decode.specs.Outcome.{Carried, IsOutcome, users_on}
use Rattle.trace_decode.specs.Standing.{CanDecode}
use Rattle.trace_decode.proofs.DrivenLemmas.{driven_is_carried}
use Rattle.port_gen.specs.Jobs.{Job, TooManyCycles, TooManyLeaves, always_ready, job_of, job_over, job_value, most_transfers, or_no_job, runs_at_rest}
use Rattle.port_gen.specs.Laws.{IsCarried, JobsAreCarried}
use Rattle.port_gen.specs.Plans.{job_plan, plan_over, ready_plan}
use Rattle.port_gen.proofs.StartLemmas.{plan-fits}

-- ---- a plan with other ready bits

-- a result for each run of which there is one over other cycles
abbrev over_all : ℕ → Result (List StreamRun) Undriven → Result (List StreamRun) Undriven
over_all cycles (Ok runs) = Ok (map (always_ready cycles) runs)
over_all cycles (Err reason) = Err reason

module _ (split : PlainSplit) (value : List (List Tree)) (cycles : ℕ) where
  one-over : (test : Bool) (p : Parameters) (items : List Item) (reason : Undriven) (rest other : Result (List StreamRun) Undriven) → other ≡ over_all cycles rest
      → ((if test then Ok (planned_run p items (ready_plan cycles)) else Err reason) >>= λ run. other >>= λ runs. Ok (run ∷ runs))
      ≡ over_all cycles ((if test then Ok (planned_run p items (ready_plan 0)) else Err reason) >>= λ run. rest >>= λ runs. Ok (run ∷ runs))
  one-over true p items reason (Ok runs) other is = ap (λ (r : Result (List StreamRun) Undriven). r >>= λ all. Ok (planned_run p items (ready_plan cycles) ∷ all)) is
  one-over true p items reason (Err e) other is = ap (λ (r : Result (List StreamRun) Undriven). r >>= λ all. Ok (planned_run p items (ready_plan cycles) ∷ all)) is
  one-over false p items reason rest other is = refl

  -- the runs of a plan over so many cycles are those of the plan without cycles, always ready
  runs-over : (number : ℕ) (streams : List Phys)
      → runs_from split value number streams (plan_over cycles streams).streams ≡ over_all cycles (runs_from split value number streams (plan_over 0 streams).streams)
  runs-over number [] = refl
  runs-over number (stream ∷ streams) =
      one-over (is_multiple stream.params (items_on split value number stream)) stream.params (items_on split value number stream)
      (driving.CountNotMultiple number (length (items_on split value number stream)) stream.params.lanes)
      (runs_from split value (suc number) streams (plan_over 0 streams).streams) (runs_from split value (suc number) streams (plan_over cycles streams).streams) (runs-over (suc number) streams)

-- ---- runs that are always ready finish

no-gap : (p : Parameters) (ts : List Transfer) (number : ℕ) → gap_of p ts [] number ≡ 0
no-gap p ts number = by (pauses_after p (tail_of (items_of_all p (take number ts))))
  where
    by : (test : Bool) → (if test then slice_index [] number else 0) ≡ 0
    by true = search
    by false = refl

no-gaps : (p : Parameters) (ts : List Transfer) (number : ℕ) → gaps_below p ts [] number ≡ 0
no-gaps p ts zero = refl
no-gaps p ts (suc number) = omega (arith, no-gaps p ts number, no-gap p ts number)

ones-all : (cycles : ℕ) → ones_in (replicate cycles true) ≡ cycles
ones-all zero = refl
ones-all (suc cycles) = ap suc (ones-all cycles)

-- each of these runs has at most as many transfers as the one with the most
at-most : (runs : List StreamRun) (i : ℕ) (run : StreamRun) → slice_get runs i ≡ Some run → length run.transfers ≤ most_transfers runs
at-most [] i run there = cc
at-most (one ∷ runs) zero run there =
    let same : one ≡ run = cc in
    subst (λ (r : StreamRun). length r.transfers ≤ most_transfers (one ∷ runs)) same (le-max_left (length one.transfers) (most_transfers runs))
at-most (one ∷ runs) (suc i) run there = omega (arith, at-most runs i run there, le-max_right (length one.transfers) (most_transfers runs))

-- ---- a job, taken apart

record IsMade (split : PlainSplit) (seed count : ℕ) (job : Job) : Type 0 where
  pub few_leaves : leaves_of_roots (generated split seed count) ≤ most_leaves
  pub resting : List StreamRun
  pub made : runs_at_rest split (job_value split seed count) ≡ Ok resting
  pub few : most_transfers resting ≤ most_cycles
  pub is : job ≡ record { cycles = most_transfers resting; runs = map (always_ready (most_transfers resting)) resting }

made-of : (split : PlainSplit) (seed count : ℕ) (job : Job) → job_of split seed count ≡ Ok job → IsMade split seed count job
made-of split seed count job = by_leaves (nat_lt most_leaves (leaves_of_roots (generated split seed count))) refl
  where
    by_cycles : (resting : List StreamRun) → runs_at_rest split (job_value split seed count) ≡ Ok resting → leaves_of_roots (generated split seed count) ≤ most_leaves → (test : Bool) → nat_lt most_cycles (most_transfers resting) ≡ test
        → (if test then Err TooManyCycles else Ok (record { cycles = most_transfers resting; runs = map (always_ready (most_transfers resting)) resting })) ≡ Ok job → IsMade split seed count job
    by_cycles resting is leaves true test ends = cc
    by_cycles resting is leaves false test ends = record { few_leaves = leaves; resting = resting; made = is; few = grind (arith, nat_tests); is = sym cc }

    by_runs : (result : Result (List StreamRun) Undriven) → runs_at_rest split (job_value split seed count) ≡ result → leaves_of_roots (generated split seed count) ≤ most_leaves
        → (or_no_job result >>= λ runs. job_over (most_transfers runs) runs) ≡ Ok job → IsMade split seed count job
    by_runs (Ok resting) is leaves ends = by_cycles resting is leaves (nat_lt most_cycles (most_transfers resting)) refl ends
    by_runs (Err reason) is leaves ends = cc

    by_leaves : (test : Bool) → nat_lt most_leaves (leaves_of_roots (generated split seed count)) ≡ test
        → ((if test then Err TooManyLeaves else or_no_job (runs_at_rest split (job_value split seed count))) >>= λ runs. job_over (most_transfers runs) runs) ≡ Ok job → IsMade split seed count job
    by_leaves true test ends = cc
    by_leaves false test ends = by_runs (runs_at_rest split (job_value split seed count)) refl (grind (arith, nat_tests)) ends

-- ---- the law

module _ (split : PlainSplit) (seed count : ℕ) (job : Job) (can : CanDecode split) (form : AreHeadsInForm split) (m : IsMade split seed count job) where
  abbrev value : List (List Tree)
  value = job_value split seed count

  abbrev cycles : ℕ
  cycles = most_transfers m.resting

  abbrev runs : List StreamRun
  runs = map (always_ready cycles) m.resting

  may : MayDrive split value (job_plan split cycles)
  may = record { port = can.port; heads = form; value_fits = generated-fits split can.port seed count; plan_fits = plan-fits split.streams cycles m.few }

  all-made : runs_of split value (job_plan split cycles).streams ≡ Ok runs
  all-made = runs-over split value cycles 0 split.streams ∙ ap (over_all cycles) m.made

  -- a run of the plan without cycles has no gaps
  resting-gaps : (i : ℕ) (run : StreamRun) → slice_get m.resting i ≡ Some run → run.gaps ≡ []
  resting-gaps i run there =
      let fits = plan-fits split.streams 0 (omega arith) in
      let at = run-at split value 0 split.streams (job_plan split 0).streams 0 m.resting i run (plans-fit 0 split.streams (job_plan split 0).streams fits.each) m.made there in
      let plan = mapped-from (λ (stream : Phys). ready_plan 0) split.streams i at.plan at.plan_there in
      ap (λ (r : StreamRun). r.gaps) at.is ∙ ap (λ (p : StreamPlan). p.gaps) plan.same

  ready-bits : (i : ℕ) (run : StreamRun) → slice_get runs i ≡ Some run → HasReadyBits run
  ready-bits i run there =
      let from = mapped-from (always_ready cycles) m.resting i run there in
      let gaps : gaps_below from.from.params from.from.transfers from.from.gaps (length from.from.transfers) ≡ 0 =
      ap (λ (g : List ℕ). gaps_below from.from.params from.from.transfers g (length from.from.transfers)) (resting-gaps i from.from from.there)
      ∙ no-gaps from.from.params from.from.transfers (length from.from.transfers) in
      subst HasReadyBits (sym from.same) (omega (arith, gaps, ones-all cycles, at-most m.resting i from.from from.there))

  drives : drive_of split value (job_plan split cycles).streams ≡ Ok runs
  drives = ready-drive split value (job_plan split cycles).streams runs all-made ready-bits

  driven : IsDriven split value (job_plan split cycles) runs
  driven = is-driven split value (job_plan split cycles) runs (can-drive split value (job_plan split cycles) may) drives

  abbrev t : TraceText
  t = trace_of split cycles runs

  carried : IsOutcome split t (Carried value (users_on (streams_of t)))
  carried = driven_is_carried split can value (job_plan split cycles) runs (can-drive split value (job_plan split cycles) may) drives

  -- a trace without an offence by all rules has none by rules 1 to 10
  no-offence : IsFirst (offends_in t) None
  no-offence o offends =
      carried.0.legal.first o (record { trace = offends.trace; stands = offends.stands; breaks = record { now = offends.breaks.now; stands = offends.breaks.stands; broken = inl offends.breaks.broken } })

  carried-so : IsCarried split seed count (record { cycles = cycles; runs = runs })
  carried-so = record {
    few_leaves = m.few_leaves;
    few_cycles = m.few;
    may_drive = may;
    drives = drives;
    is_trace = driven.is_trace (heads-together split can.port form);
    legal = no-offence;
    whole = carried.0.ends;
    carries = carried;
  }

pub jobs-are-carried : JobsAreCarried
jobs-are-carried split seed count job can form is =
    let m = made-of split seed count job is in
    subst (IsCarried split seed count) (sym m.is) (carried-so split seed count job can form m)
