-- The runs of a job, before its first row.
use Rattle.std.proofs.Common.{◌≡◌, ◌∙◌, ℕ, zero, suc, ◌-◌, ◌^◌, ◌<◌, ◌≤◌, nat_lt, Bool, true, false, if◌then◌else◌, List, [], ◌∷◌, length, map, take, replicate, Option, None, Some, Result, Ok, Err, MatchOption, option_map, refl, sym, ap, subst, arith}
use Rattle.std.specs.List.{slice_get}
use Rattle.std.proofs.lemmas.Bool.Decides.{nat_tests}
use Rattle.std.proofs.lemmas.List.{length-map, length-replicate}
use Rattle.std.proofs.lemmas.List.Elements.{All-nil}
use Rattle.std.proofs.lemmas.Option.{slice_get_within}
use Rattle.tydi_base.specs.Reading.{◌>>=◌}
use Rattle.tydi_base.proofs.PlaceLemmas.{slice_get-there}
use Rattle.cycle_trace.specs.Trace.{most_cycles}
use Rattle.type_split.specs.Streams.{PlainSplit}
use Rattle.type_split.specs.declared.split.Phys.{Phys}
use Rattle.logical_value.specs.Tree.{Tree, plain, plain_port}
use Rattle.logical_value.specs.declared.value.PortValue.{PortValue}
use Rattle.plan_text.specs.Laws.{FitEach, FitsPort}
use Rattle.plan_text.specs.declared.plan.Plan.{Plan}
use Rattle.plan_text.specs.declared.plan.StreamPlan.{StreamPlan}
use Rattle.plan_text.specs.declared.plan.Wish.{Wish}
use Rattle.value_text.specs.Leaves.{most_leaves}
use Rattle.value_text.specs.Printable.{leaves_of_port}
use Rattle.value_gen.specs.Leaves.{leaves_of_roots}
use Rattle.value_gen.specs.Made.{generated}
use Rattle.handshake.specs.Ports.{AreAt, cycles_made, runs_in}
use Rattle.handshake.specs.Rows as port
use Rattle.handshake.specs.Rows.{StreamRun, undone_in}
use Rattle.handshake.specs.Standing.{StandsFor}
use Rattle.handshake.specs.declared.cursor.Cursor.{Cursor}
use Rattle.handshake.specs.declared.feed.TransferFeed.{Ghosts}
use Rattle.handshake.specs.declared.port_run.PortRun.{PortRun}
use Rattle.scheduler.specs.Planners.{rest_of, whole_of}
use Rattle.scheduler.specs.declared.planner.Planner.{Planner}
use Rattle.port_drive.specs.Drives as driving
use Rattle.port_drive.specs.Drives.{Undriven, items_on, is_multiple, planned_run, run_unless, runs_from, runs_of}
use Rattle.port_drive.specs.PortText.{rows_left}
use Rattle.port_drive.specs.Starting.{StandsAtStart, runs_of_port}
use Rattle.port_drive.specs.Faults as drives
use Rattle.port_drive.specs.declared.fault.DriveFault.{DriveFault}
use Rattle.port_drive.specs.declared.fault.DriveFault.TheVariants as driven
use Rattle.port_drive.proofs.DriveLemmas.{many-runs, plans-fit}
use Rattle.port_gen.specs.Jobs.{Job, NoJob, NotDriven, TooManyCycles, TooManyLeaves, always_ready, job_of, job_over, job_value, most_transfers, or_no_job, resting_runs, runs_at_rest}
use Rattle.port_gen.specs.Longest.{greatest}
use Rattle.port_gen.specs.Plans.{job_plan, plan_over, ready_plan}
use Rattle.port_gen.specs.Starting.{IsOfRuns}

-- ---- plans of jobs

ready-fits : (cycles : ℕ) (streams : List Phys) → FitEach cycles streams (map (λ (stream : Phys). ready_plan cycles) streams)
ready-fits cycles [] = tt
ready-fits cycles (stream ∷ streams) = (
  record {
    gaps = All-nil (λ (gap : ℕ). gap ≤ 1000000);
    ready = length-replicate cycles true;
    wishes = All-nil (λ (wish : Wish). wish.mask < 2 ^ stream.params.lanes);
    users = All-nil (λ (user : List Bool). length user ≡ stream.params.user);
  },
  ready-fits cycles streams,
)

-- the plan of a job fits the streams of its port
pub plan-fits : (streams : List Phys) (cycles : ℕ) → cycles ≤ most_cycles → FitsPort streams (plan_over cycles streams)
plan-fits streams cycles few = record { cycles = few; each = ready-fits cycles streams }

pub resting-fits : (streams slice : List Phys) (plan : Plan) → slice ≡ streams → plan ≡ plan_over 0 slice → FitsPort streams plan
resting-fits streams slice plan same is =
    subst (FitsPort streams) (sym (is ∙ ap (plan_over 0) same)) (plan-fits streams 0 (omega arith))

-- ---- runs are not refused as unfinished

module _ (split : PlainSplit) (value : List (List Tree)) where
  one-more : (test : Bool) (run : StreamRun) (number count lanes : ℕ) (rest : Result (List StreamRun) Undriven) (stream left : ℕ)
      → (rest ≡ Err (driving.NotFinished stream left) → ⊥)
      → ((if test then Ok run else Err (driving.CountNotMultiple number count lanes)) >>= λ one. rest >>= λ runs. Ok (one ∷ runs)) ≡ Err (driving.NotFinished stream left) → ⊥
  one-more true run number count lanes (Ok runs) stream left later is = cc
  one-more true run number count lanes (Err reason) stream left later is = later (ap Err (same_reason is))
    where
      same_reason : ◌≡◌ {A = Result (List StreamRun) Undriven} (Err reason) (Err (driving.NotFinished stream left)) → reason ≡ driving.NotFinished stream left
      same_reason same = cc
  one-more false run number count lanes rest stream left later is = cc

  never-unfinished : (number : ℕ) (streams : List Phys) (plans : List StreamPlan) (stream left : ℕ) → runs_from split value number streams plans ≡ Err (driving.NotFinished stream left) → ⊥
  never-unfinished number [] plans stream left is = cc
  never-unfinished number (one ∷ streams) [] stream left is = cc
  never-unfinished number (one ∷ streams) (plan ∷ plans) stream left is =
      one-more (is_multiple one.params (items_on split value number one)) (planned_run one.params (items_on split value number one) plan) number (length (items_on split value number one)) one.params.lanes
      (runs_from split value (suc number) streams plans) stream left (never-unfinished (suc number) streams plans stream left) is

-- ---- the runs before the first cycle

module _ (split : PlainSplit) (value : List (List Tree)) (slice : List Phys) (plan : Plan) (same : slice ≡ split.streams) (planned : plan ≡ plan_over 0 slice) where
  at-rest : runs_of split value plan.streams ≡ runs_at_rest split value
  at-rest = ap (λ (p : Plan). runs_of split value p.streams) (planned ∙ ap (plan_over 0) same)

  pub rest-ok : {X : Type 0} (view : X → List StreamRun) (run : X) → runs_of split value plan.streams ≡ Ok (view run) → or_no_job (runs_at_rest split value) ≡ Ok (view run)
  rest-ok view run is = ap or_no_job (sym at-rest ∙ is)

  pub rest-made : (runs : List StreamRun) → runs_of split value plan.streams ≡ Ok runs → length split.streams ≡ length runs
  rest-made runs is =
      let fits = resting-fits split.streams slice plan same planned in
      many-runs split value plan.cycles split.streams plan.streams 0 runs (plans-fit plan.cycles split.streams plan.streams fits.each) is

  pub rest-start : {T : Ghosts Planner} (run : PortRun Planner T) → StandsAtStart {T = T} plan.cycles run → StandsAtStart {T = T} 0 run
  rest-start {T} run start = subst (λ (n : ℕ). StandsAtStart {T = T} n run) (ap (λ (p : Plan). p.cycles) planned) start

  pub rest-told : (fault : DriveFault) → MatchOption (drives.reason_in fault) (Unit {0}) (λ reason. runs_of split value plan.streams ≡ Err reason) → IsOfRuns fault
  rest-told (driven.CountNotMultiple stream count lanes) why = tt
  rest-told (driven.NotFinished stream left) why = never-unfinished split value 0 split.streams plan.streams stream left why
  rest-told driven.Memory why = tt

  told-by : (reason : Option Undriven) (told : Option NoJob) → told ≡ option_map NotDriven reason → MatchOption reason (Unit {0}) (λ one. runs_of split value plan.streams ≡ Err one)
      → MatchOption told (Unit {0}) (λ one. or_no_job (runs_at_rest split value) ≡ Err one)
  told-by None told is why = subst (λ (o : Option NoJob). MatchOption o (Unit {0}) (λ one. or_no_job (runs_at_rest split value) ≡ Err one)) (sym is) tt
  told-by (Some one) told is why =
      subst (λ (o : Option NoJob). MatchOption o (Unit {0}) (λ x. or_no_job (runs_at_rest split value) ≡ Err x)) (sym is) (ap or_no_job (sym at-rest ∙ why))

  pub rest-err : (fault : DriveFault) (told : Option NoJob) → told ≡ option_map NotDriven (drives.reason_in fault)
      → MatchOption (drives.reason_in fault) (Unit {0}) (λ reason. runs_of split value plan.streams ≡ Err reason)
      → MatchOption told (Unit {0}) (λ one. or_no_job (runs_at_rest split value) ≡ Err one)
  rest-err fault told is why = told-by (drives.reason_in fault) told is why

module _ (split : PlainSplit) (seed count : ℕ) where
  pub too-many-leaves : most_leaves < leaves_of_roots (generated split seed count) → resting_runs split seed count ≡ Err TooManyLeaves
  too-many-leaves many =
      let test : nat_lt most_leaves (leaves_of_roots (generated split seed count)) ≡ true = grind (arith, nat_tests) in
      ap (λ (b : Bool). if b then Err TooManyLeaves else or_no_job (runs_at_rest split (job_value split seed count))) test

  -- a value with few leaves has the runs of the job
  pub resting-is : (value : PortValue) → value.roots ≡ generated split seed count → leaves_of_port (plain_port value) ≤ most_leaves
      → or_no_job (runs_at_rest split (plain_port value)) ≡ resting_runs split seed count
  resting-is value made few =
      let is : plain_port value ≡ job_value split seed count = ap (map (map plain)) made in
      let same : leaves_of_port (plain_port value) ≡ leaves_of_roots (generated split seed count) = ap leaves_of_port is in
      let test : nat_lt most_leaves (leaves_of_roots (generated split seed count)) ≡ false = grind (arith, nat_tests) in
      ap (λ (v : List (List Tree)). or_no_job (runs_at_rest split v)) is
      ∙ sym (ap (λ (b : Bool). if b then Err TooManyLeaves else or_no_job (runs_at_rest split (job_value split seed count))) test)

-- ---- how many transfers each stream has

no-bits : (bits : List Bool) → length bits ≡ 0 → bits ≡ []
no-bits [] none = refl
no-bits (bit ∷ bits) none = absurd (omega (arith, none))

all-left : (many : ℕ) → many - 0 ≡ many
all-left many = omega arith

take-none : (many : ℕ) (bits : List Bool) → length bits ≡ 0 → take many bits ≡ []
take-none zero bits none = refl
take-none (suc many) [] none = refl
take-none (suc many) (bit ∷ bits) none = absurd (omega (arith, none))

module _ {T : Ghosts Planner} where
  pub many-in : (cursors : List (Cursor Planner T)) (ready : List (List Bool)) → length cursors ≡ length ready → length (runs_in rest_of whole_of cursors ready) ≡ length cursors
  many-in [] ready same = refl
  many-in (c ∷ cursors) [] same = absurd (omega (arith, same))
  many-in (c ∷ cursors) (bits ∷ ready) same = ap suc (many-in cursors ready (omega (arith, same)))

  -- no transfer is done before the first cycle
  undone-all : (cursors : List (Cursor Planner T)) (ready : List (List Bool)) → ((i : ℕ) (bits : List Bool) → slice_get ready i ≡ Some bits → length bits ≡ 0)
      → undone_in (runs_in rest_of whole_of cursors ready) ≡ map (λ (run : StreamRun). length run.transfers) (runs_in rest_of whole_of cursors ready)
  undone-all [] ready none = refl
  undone-all (c ∷ cursors) [] none = refl
  undone-all (c ∷ cursors) (bits ∷ ready) none =
      ap (λ (b : List Bool). port.undone_in (record { params = c.params; transfers = whole_of c.feed; gaps = c.gaps; ready = b } ∷ runs_in rest_of whole_of cursors ready)) (no-bits bits (none 0 bits refl))
      ∙ ap (λ (n : ℕ). n ∷ undone_in (runs_in rest_of whole_of cursors ready)) (all-left (length (whole_of c.feed)))
      ∙ ap (λ (l : List ℕ). length (whole_of c.feed) ∷ l) (undone-all cursors ready (λ i one there. none (suc i) one there))

  -- the runs of these cursors, always ready
  runs-ready : (cycles : ℕ) (cursors : List (Cursor Planner T)) (ready : List (List Bool)) → length cursors ≡ length ready
      → runs_in rest_of whole_of cursors (replicate (length cursors) (replicate cycles true)) ≡ map (always_ready cycles) (runs_in rest_of whole_of cursors ready)
  runs-ready cycles [] ready same = refl
  runs-ready cycles (c ∷ cursors) [] same = absurd (omega (arith, same))
  runs-ready cycles (c ∷ cursors) (bits ∷ ready) same =
      ap (λ (l : List StreamRun). record { params = c.params; transfers = whole_of c.feed; gaps = c.gaps; ready = replicate cycles true } ∷ l) (runs-ready cycles cursors ready (omega (arith, same)))

  module _ (run : PortRun Planner T) (start : StandsAtStart 0 run) (at : AreAt {T = T} rest_of whole_of run.cursors.items run.ready run.number run.many run.stream) where
    pub rest-over : rows_left {T = T} run ≡ []
    rest-over = ap (λ (m : ℕ). port.rows_after (runs_of_port {T = T} run) run.stream run.number m) start.many

    none-ready : (i : ℕ) (bits : List Bool) → slice_get run.ready i ≡ Some bits → length bits ≡ 0
    none-ready i bits there = omega (arith, at.long i bits there, start.number, start.many)

    pub rest-greatest : greatest (undone_in (runs_of_port {T = T} run)) ≡ most_transfers (runs_of_port {T = T} run)
    rest-greatest = ap greatest (undone-all run.cursors.items run.ready none-ready)

    pub rest-many : (streams : ℕ) → streams ≡ length (runs_of_port {T = T} run) → streams ≡ length (undone_in (runs_of_port {T = T} run))
    rest-many streams is = is ∙ sym (length-map (runs_of_port {T = T} run) driving.left_of)

    module _ (streams cycles : ℕ) (many : streams ≡ length (runs_of_port {T = T} run)) (cursors : List (Cursor Planner T)) (same : cursors ≡ run.cursors.items) where
      all-many : streams ≡ length cursors
      all-many = many ∙ many-in run.cursors.items run.ready at.same ∙ ap length (sym same)

      pub begin-same : (ready : List (List Bool)) → ready ≡ replicate streams (replicate cycles true) → length cursors ≡ length ready
      begin-same ready is = omega (arith, all-many, ap length is, length-replicate streams (replicate cycles true))

      pub begin-stands : (i : ℕ) (c : Cursor Planner T) → slice_get cursors i ≡ Some c → StandsFor rest_of c (whole_of c.feed) []
      begin-stands i c there =
          let here : slice_get run.cursors.items i ≡ Some c = ap (λ (cs : List (Cursor Planner T)). slice_get cs i) (sym same) ∙ there in
          let bits = slice_get-there run.ready i (omega (arith, slice_get_within run.cursors.items i c here, at.same)) in
          subst (StandsFor rest_of c (whole_of c.feed)) (take-none (cycles_made run.number run.stream i) bits.0 (none-ready i bits.0 bits.1)) (at.stands i c bits.0 here bits.1)

      pub begin-runs : (ready : List (List Bool)) → ready ≡ replicate streams (replicate cycles true) → runs_in rest_of whole_of cursors ready ≡ map (always_ready cycles) (runs_of_port {T = T} run)
      begin-runs ready is =
          ap (runs_in rest_of whole_of cursors) (is ∙ ap (λ (n : ℕ). replicate n (replicate cycles true)) all-many)
          ∙ ap (λ (cs : List (Cursor Planner T)). runs_in rest_of whole_of cs (replicate (length cs) (replicate cycles true))) same
          ∙ runs-ready cycles run.cursors.items run.ready at.same

-- the runs of these cursors and ready bits are those of equal ones
pub runs-begun : {T : Ghosts Planner} (one other : List (Cursor Planner T)) (ready bits : List (List Bool)) → one ≡ other → ready ≡ bits → runs_in rest_of whole_of one ready ≡ runs_in rest_of whole_of other bits
runs-begun {T} one other ready bits same are = ap (λ (cs : List (Cursor Planner T)). runs_in rest_of whole_of cs ready) same ∙ ap (runs_in rest_of whole_of other) are

replicate-long : {A : Type 0} (many i : ℕ) (x y : A) → slice_get (replicate many x) i ≡ Some y → x ≡ y
replicate-long zero i x y is = cc
replicate-long (suc many) zero x y is = cc
replicate-long (suc many) (suc i) x y is = replicate-long many i x y is

pub ready-long : (streams cycles : ℕ) (ready : List (List Bool)) → ready ≡ replicate streams (replicate cycles true) → (i : ℕ) (bits : List Bool) → slice_get ready i ≡ Some bits → length bits ≡ cycles
ready-long streams cycles ready is i bits there =
    let same : replicate cycles true ≡ bits = replicate-long streams i (replicate cycles true) bits (ap (λ (l : List (List Bool)). slice_get l i) (sym is) ∙ there) in
    sym (ap length same) ∙ length-replicate cycles true

-- ---- the job

module _ (split : PlainSplit) (seed count : ℕ) where
  module _ (runs : List StreamRun) (resting : resting_runs split seed count ≡ Ok runs) (most : ℕ) (is : most ≡ most_transfers runs) where
    job-is : job_of split seed count ≡ job_over most runs
    job-is =
        ap (λ (r : Result (List StreamRun) NoJob). r >>= λ all. job_over (most_transfers all) all) resting
        ∙ ap (λ (n : ℕ). job_over n runs) (sym is)

    pub too-many-cycles : most_cycles < most → job_of split seed count ≡ Err TooManyCycles
    too-many-cycles many =
        let test : nat_lt most_cycles most ≡ true = grind (arith, nat_tests) in
        job-is ∙ ap (λ (b : Bool). if b then Err TooManyCycles else Ok (record { cycles = most; runs = map (always_ready most) runs })) test

    pub job-made : most ≤ most_cycles → (cycles : ℕ) (all : List StreamRun) → cycles ≡ most → all ≡ map (always_ready cycles) runs → job_of split seed count ≡ Ok (record { cycles = cycles; runs = all })
    job-made few cycles all same are =
        let test : nat_lt most_cycles most ≡ false = grind (arith, nat_tests) in
        job-is
        ∙ ap (λ (b : Bool). if b then Err TooManyCycles else Ok (record { cycles = most; runs = map (always_ready most) runs })) test
        ∙ ap (λ (n : ℕ). Ok (record { cycles = n; runs = map (always_ready n) runs })) (sym same)
        ∙ ap (λ (l : List StreamRun). Ok (record { cycles = cycles; runs = l })) (sym are)

  pub no-job-by : (reason : Option NoJob) → MatchOption reason (Unit {0}) (λ one. resting_runs split seed count ≡ Err one) → MatchOption reason (Unit {0}) (λ one. job_of split seed count ≡ Err one)
  no-job-by None why = tt
  no-job-by (Some one) why = ap (λ (r : Result (List StreamRun) NoJob). r >>= λ all. job_over (most_transfers all) all) why

-- a job that is refused for its runs has none
pub not-driven : (split : PlainSplit) (seed count : ℕ) (reason : Undriven) → job_of split seed count ≡ Err (NotDriven reason) → runs_at_rest split (job_value split seed count) ≡ Err reason
not-driven split seed count reason = by_leaves (nat_lt most_leaves (leaves_of_roots (generated split seed count)))
  where
    same_reason : (one : Undriven) → ◌≡◌ {A = Result Job NoJob} (Err (NotDriven one)) (Err (NotDriven reason)) → one ≡ reason
    same_reason one same = cc

    by_cycles : (runs : List StreamRun) (test : Bool) → ◌≡◌ {A = Result Job NoJob} (if test then Err TooManyCycles else Ok (record { cycles = most_transfers runs; runs = map (always_ready (most_transfers runs)) runs })) (Err (NotDriven reason)) → ⊥
    by_cycles runs true is = cc
    by_cycles runs false is = cc

    by_runs : (made : Result (List StreamRun) Undriven) → (or_no_job made >>= λ runs. job_over (most_transfers runs) runs) ≡ Err (NotDriven reason) → made ≡ Err reason
    by_runs (Ok runs) is = absurd (by_cycles runs (nat_lt most_cycles (most_transfers runs)) is)
    by_runs (Err one) is = ap Err (same_reason one is)

    by_leaves : (test : Bool) → ((if test then Err TooManyLeaves else or_no_job (runs_at_rest split (job_value split seed count))) >>= λ runs. job_over (most_transfers runs) runs) ≡ Err (NotDriven reason)
        → runs_at_rest split (job_value split seed count) ≡ Err reason
    by_leaves true is = cc
    by_leaves false is = by_runs (runs_at_rest split (job_value split seed count)) is

-- no job is refused as one whose runs do not finish
pub jobs-never-unfinished : (split : PlainSplit) (seed count stream left : ℕ) → job_of split seed count ≡ Err (NotDriven (driving.NotFinished stream left)) → ⊥
jobs-never-unfinished split seed count stream left is =
    never-unfinished split (job_value split seed count) 0 split.streams (job_plan split 0).streams stream left (not-driven split seed count (driving.NotFinished stream left) is)
