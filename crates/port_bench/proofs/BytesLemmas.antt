-- The bench of a port under the cycles and ready bits of its plan.
use Rattle.std.proofs.Common.{◌≡◌, ◌∙◌, ℕ, zero, suc, ◌+◌, ◌<◌, ◌≤◌, Bool, true, false, not, ◌&&◌, nat_le, List, [], ◌∷◌, ◌++◌, length, map, take, drop, get_or, slice_get, Option, Some, Ok, refl, sym, ap, subst, arith, All}
use Rattle.std.specs.List.{list_any}
use Rattle.std.specs.Str.{bytes_eq}
use Rattle.std.proofs.lemmas.Bool.Decides.{nat_tests}
use Rattle.std.proofs.lemmas.List.{drop_all, drop_more, length-append, length-map}
use Rattle.std.proofs.lemmas.List.Folds.{list_any_at}
use Rattle.std.proofs.lemmas.Option.{get_or_from_slice_get, slice_get_within}
use Rattle.std.proofs.lemmas.Slice.Eq.{bytes_eq-Decides}
use Rattle.tydi_base.proofs.PlaceLemmas.{slice_get-front}
use Rattle.tydi_base.specs.Path.{path_text}
use Rattle.physical_stream.specs.Cycles.{Cycle}
use Rattle.physical_stream.specs.Params.{Parameters}
use Rattle.physical_stream.specs.Signals.{Shows}
use Rattle.physical_stream.specs.StreamLine.{IsHead}
use Rattle.physical_stream.specs.declared.head.Head.{Head}
use Rattle.physical_stream.specs.declared.transfer.Transfer.{Transfer}
use Rattle.cycle_trace.specs.Spelling.{trace_text}
use Rattle.cycle_trace.specs.Trace.{all_distinct, are_heads, params_of_heads}
use Rattle.cycle_trace.specs.Version.{version_of}
use Rattle.type_split.specs.Streams.{PlainSplit}
use Rattle.type_split.specs.declared.split.Phys.{Phys}
use Rattle.logical_value.specs.Tree.{Tree}
use Rattle.plan_text.specs.Laws.{FitEach}
use Rattle.plan_text.specs.declared.plan.Plan.{Plan}
use Rattle.plan_text.specs.declared.plan.StreamPlan.{StreamPlan}
use Rattle.handshake.specs.Rows as port
use Rattle.handshake.specs.Rows.{StreamRun, row_at}
use Rattle.handshake.specs.Run.{next_cycle, run_of, run_on}
use Rattle.trace_pieces.specs.Laws.{AreRunsOf}
use Rattle.vhdl_text.specs.WellFormed.{AreApart, AreHeads, IsWellFormed}
use Rattle.vhdl_meaning.specs.Laws.{AreOrders}
use Rattle.vhdl_meaning.specs.Meaning.{Edge, Moment, cycle_at, meaning}
use Rattle.vhdl_meaning.specs.RunLaws.{FitsBench}
use Rattle.vhdl_meaning.specs.declared.run.SimRun.{SimRun}
use Rattle.bench_run.specs.Traces.{cycles_from, edge_at, edges_from, edges_of, rows_in, rows_of, trace_text_of}
use Rattle.bench_run.proofs.MomentLemmas.{are-orders, bit-is, length-meaning}
use Rattle.port_drive.specs.Drives.{drive_of, head_of_stream, heads_of, runs_of}
use Rattle.port_drive.specs.Laws.{CanBeDriven, trace_of}
use Rattle.port_drive.specs.Text.{MayDrive, PortHeadsStandTogether, written_text}
use Rattle.port_drive.proofs.DriveLemmas.{RunAt, finished-of, finished-same, many-runs, plans-fit}
use Rattle.port_drive.proofs.DrivenLemmas.{are-runs, at}
use Rattle.port_drive.proofs.TextLemmas.{can-drive}
use Rattle.testbench.specs.Driving.{Driven, driving, processes_from}
use Rattle.testbench.specs.Given.{ShowLists, driven_by, head_of}
use Rattle.testbench.specs.PortLaws.{PortBenchesAreWellFormed, PortBenchesRun}
use Rattle.vhdl_text.specs.Reading.{BenchesAreReadAsPrinted}
use Rattle.port_bench.specs.Benches.{bench_of_runs, driven_runs}
use Rattle.port_bench.specs.Laws.{BenchesShowTheirRuns, DrivenPortsHaveBenches, IsRunOfPlan}

same_some : {A : Type 0} {x y : A} → Some x ≡ Some y → x ≡ y
same_some is = cc

no_element : {A : Type 0} (k : ℕ) (x : A) → ◌≡◌ {A = Option A} (slice_get [] k) (Some x) → ⊥
no_element zero x is = cc
no_element (suc k) x is = cc

-- ---- one cycle of a run

get-last : (front : List Cycle) (c : Cycle) → slice_get (front ++ c ∷ []) (length front) ≡ Some c
get-last [] c = refl
get-last (x ∷ front) c = get-last front c

module _ (p : Parameters) (ts : List Transfer) (gaps : List ℕ) where
  run-front : (bits : List Bool) (before : List Cycle) (i : ℕ) (c : Cycle) → slice_get before i ≡ Some c → slice_get (run_on p ts gaps before bits) i ≡ Some c
  run-front [] before i c there = there
  run-front (bit ∷ bits) before i c there =
      run-front bits (before ++ next_cycle p ts gaps before bit ∷ []) i c (slice_get-front before (next_cycle p ts gaps before bit ∷ []) i (slice_get_within before i c there) ∙ there)

  run_on-at : (bits : List Bool) (before : List Cycle) (k : ℕ) → k < length bits
      → slice_get (run_on p ts gaps before bits) (length before + k) ≡ Some (next_cycle p ts gaps (run_on p ts gaps before (take k bits)) (get_or bits k false))
  run_on-at [] before k less = absurd (omega (arith, less))
  run_on-at (bit ∷ bits) before zero less =
      let first : length before + 0 ≡ length before = omega arith in
      ap (slice_get (run_on p ts gaps before (bit ∷ bits))) first
      ∙ run-front bits (before ++ next_cycle p ts gaps before bit ∷ []) (length before) (next_cycle p ts gaps before bit) (get-last before (next_cycle p ts gaps before bit))
  run_on-at (bit ∷ bits) before (suc k) less =
      let longer : List Cycle = before ++ next_cycle p ts gaps before bit ∷ [] in
      let next : length before + suc k ≡ length longer + k = omega (arith, length-append before (next_cycle p ts gaps before bit ∷ [])) in
      ap (slice_get (run_on p ts gaps before (bit ∷ bits))) next ∙ run_on-at bits longer k (omega (arith, less))

-- the cycle of this number of a stream's run
pub row-of-run : (s : StreamRun) (k : ℕ) → k < length s.ready → slice_get (run_of s.params s.transfers s.gaps s.ready) k ≡ Some (row_at k s)
row-of-run s k less =
    let same : k ≡ 0 + k = omega arith in
    ap (slice_get (run_of s.params s.transfers s.gaps s.ready)) same ∙ run_on-at s.params s.transfers s.gaps s.ready [] k less

-- ---- the ready bits of a stream among the inputs

bits-from : (run : SimRun) (j : ℕ) (l : List Bool) (many first : ℕ) → j < length run.ready → get_or run.ready j [] ≡ l → length l ≡ first + many
    → map (λ (edge : Edge). get_or edge.ready j false) (edges_from run first many) ≡ drop first l
bits-from run j l zero first there is long = let past : length l ≤ first = omega (arith, long) in sym (drop_all first l past)
bits-from run j l (suc many) first there is long =
    let within : first < length l = omega (arith, long) in
    let here : get_or (edge_at run first).ready j false ≡ get_or l first false = bit-is run first j there ∙ ap (λ (bits : List Bool). get_or bits first false) is in
    let next : first + 1 ≡ suc first = omega arith in
    ap (λ (b : Bool). b ∷ map (λ (edge : Edge). get_or edge.ready j false) (edges_from run (suc first) many)) here
    ∙ ap (λ (bits : List Bool). get_or l first false ∷ bits) (bits-from run j l many (suc first) there is (omega (arith, long)))
    ∙ sym (drop_more l first false within ∙ ap (λ (n : ℕ). get_or l first false ∷ drop n l) next)

-- ---- rows, cycle by cycle

-- the rows of one cycle
cycles-same : (heads : List Head) (runs : List StreamRun) (stream k : ℕ) (moment : Moment) → length heads ≡ length runs
    → ((j : ℕ) (head : Head) (s : StreamRun) → slice_get heads j ≡ Some head → slice_get runs j ≡ Some s → cycle_at head.params (stream + j) moment ≡ row_at k s)
    → cycles_from stream heads moment ≡ map (row_at k) runs
cycles-same [] [] stream k moment same each = refl
cycles-same [] (s ∷ runs) stream k moment same each = absurd (omega (arith, same))
cycles-same (head ∷ heads) [] stream k moment same each = absurd (omega (arith, same))
cycles-same (head ∷ heads) (s ∷ runs) stream k moment same each =
    let first : stream + 0 ≡ stream = omega arith in
    let here : cycle_at head.params stream moment ≡ row_at k s = ap (λ (n : ℕ). cycle_at head.params n moment) (sym first) ∙ each 0 head s refl refl in
    ap (λ (c : Cycle). c ∷ cycles_from (suc stream) heads moment) here
    ∙ ap (λ (l : List Cycle). row_at k s ∷ l) (cycles-same heads runs (suc stream) k moment (omega (arith, same)) (λ j h r is_h is_r.
    let next : suc stream + j ≡ stream + suc j = omega arith in
    ap (λ (n : ℕ). cycle_at h.params n moment) next ∙ each (suc j) h r is_h is_r))

-- the rows of all cycles
rows-same : (heads : List Head) (runs : List StreamRun) (moments : List Moment) (number many : ℕ) → length moments ≡ many
    → ((i : ℕ) (moment : Moment) → slice_get moments i ≡ Some moment → cycles_from 0 heads moment ≡ map (row_at (number + i)) runs)
    → rows_in heads moments ≡ port.rows_from runs number many
rows-same heads runs [] number zero long each = refl
rows-same heads runs [] number (suc many) long each = absurd (omega (arith, long))
rows-same heads runs (moment ∷ moments) number zero long each = absurd (omega (arith, long))
rows-same heads runs (moment ∷ moments) number (suc many) long each =
    let first : number + 0 ≡ number = omega arith in
    ap (λ (l : List Cycle). l ++ rows_in heads moments) (each 0 moment refl ∙ ap (λ (n : ℕ). map (row_at n) runs) first)
    ∙ ap (λ (l : List Cycle). map (row_at number) runs ++ l) (rows-same heads runs moments (suc number) many (omega (arith, long)) (λ i m there.
    let next : number + suc i ≡ suc number + i = omega arith in each (suc i) m there ∙ ap (λ (n : ℕ). map (row_at n) runs) next))

-- ---- the streams of the bench

lists_of : List StreamRun → List (List Transfer)
lists_of runs = map (λ (s : StreamRun). s.transfers) runs

driven-same : (streams : List Phys) (runs : List StreamRun) (plans : List StreamPlan) → length streams ≡ length runs → length streams ≡ length plans
    → ((k : ℕ) (s : StreamRun) (one : StreamPlan) → slice_get runs k ≡ Some s → slice_get plans k ≡ Some one → s.gaps ≡ one.gaps)
    → driven_runs (map head_of_stream streams) runs ≡ driven_by streams (lists_of runs) plans
unfolding lists_of
driven-same [] runs plans many many_plans each = refl
driven-same (stream ∷ streams) [] plans many many_plans each = absurd (omega (arith, many))
driven-same (stream ∷ streams) (s ∷ runs) [] many many_plans each = absurd (omega (arith, many_plans))
driven-same (stream ∷ streams) (s ∷ runs) (one ∷ plans) many many_plans each =
    ap (λ (l : List ℕ). record { head = head_of_stream stream; transfers = s.transfers; gaps = l } ∷ driven_runs (map head_of_stream streams) runs) (each 0 s one refl refl)
    ∙ ap (λ (l : List Driven). record { head = head_of stream; transfers = s.transfers; gaps = one.gaps } ∷ l)
    (driven-same streams runs plans (omega (arith, many)) (omega (arith, many_plans)) (λ k r o is_r is_o. each (suc k) r o is_r is_o))

get-list : (rs : List StreamRun) (i : ℕ) (s : StreamRun) → slice_get rs i ≡ Some s → slice_get (lists_of rs) i ≡ Some s.transfers
unfolding lists_of
get-list [] i s there = absurd (no_element i s there)
get-list (r ∷ rs) zero s there = let e : r ≡ s = cc in ap (λ (x : StreamRun). Some x.transfers) e
get-list (r ∷ rs) (suc i) s there = get-list rs i s there

get-ready : (ps : List StreamPlan) (i : ℕ) (one : StreamPlan) → slice_get ps i ≡ Some one → slice_get (map (λ (p : StreamPlan). p.ready) ps) i ≡ Some one.ready
get-ready [] i one there = absurd (no_element i one there)
get-ready (p ∷ ps) zero one there = let e : p ≡ one = cc in ap (λ (x : StreamPlan). Some x.ready) e
get-ready (p ∷ ps) (suc i) one there = get-ready ps i one there

shown-lists : (streams : List Phys) (runs : List StreamRun) → params_of_heads (map head_of_stream streams) ≡ map (λ (s : StreamRun). s.params) runs
    → ((k : ℕ) (s : StreamRun) → slice_get runs k ≡ Some s → All (Shows s.params) s.transfers) → ShowLists streams (lists_of runs)
unfolding lists_of
shown-lists [] [] same shown = tt
shown-lists [] (s ∷ runs) same shown = cc
shown-lists (stream ∷ streams) [] same shown = cc
shown-lists (stream ∷ streams) (s ∷ runs) same shown =
    let params : s.params ≡ stream.params = cc in
    let more : params_of_heads (map head_of_stream streams) ≡ map (λ (r : StreamRun). r.params) runs = cc in
    (subst (λ (p : Parameters). All (Shows p) s.transfers) params (shown 0 s refl), shown-lists streams runs more (λ k r there. shown (suc k) r there))

-- ---- the heads of the bench

both-true : (a b : Bool) → (a && b) ≡ true → (a ≡ true) × (b ≡ true)
both-true true true is = (refl, refl)
both-true true false is = cc
both-true false b is = cc

texts : List Head → List (List ℕ)
texts heads = map (λ (head : Head). path_text head.path) heads

get-text : (heads : List Head) (i : ℕ) (head : Head) → slice_get heads i ≡ Some head → slice_get (texts heads) i ≡ Some (path_text head.path)
unfolding texts
get-text [] i head is = absurd (no_element i head is)
get-text (one ∷ heads) zero head is = let e : one ≡ head = cc in ap (λ (h : Head). Some (path_text h.path)) e
get-text (one ∷ heads) (suc i) head is = get-text heads i head is

-- a text that is not among others is not the text at any place of them
not-there : (text : List ℕ) (others : List (List ℕ)) (i : ℕ) (other : List ℕ) → not (list_any (bytes_eq text) others) ≡ true → slice_get others i ≡ Some other → text ≡ other → ⊥
not-there text others i other none there same =
    let at : get_or others i [] ≡ other = get_or_from_slice_get others i other [] there in
    let equal : bytes_eq text (get_or others i []) ≡ true = (bytes_eq-Decides text (get_or others i [])).1 (same ∙ sym at) in
    let some : list_any (bytes_eq text) others ≡ true = list_any_at (bytes_eq text) others i [] (slice_get_within others i other there) equal in
    let clash : not true ≡ true = ap not (sym some) ∙ none in
    cc

apart-by : (heads : List Head) → all_distinct (texts heads) ≡ true → AreApart heads
unfolding texts
apart-by [] distinct a b one other is_a is_b same = absurd (no_element a one is_a)
apart-by (head ∷ heads) distinct zero zero one other is_a is_b same = refl
apart-by (head ∷ heads) distinct zero (suc b) one other is_a is_b same =
    let first : head ≡ one = cc in
    absurd (not-there (path_text head.path) (texts heads) b (path_text other.path) (both-true _ _ distinct).0 (get-text heads b other is_b) (ap (λ (h : Head). path_text h.path) first ∙ same))
apart-by (head ∷ heads) distinct (suc a) zero one other is_a is_b same =
    let first : head ≡ other = cc in
    absurd (not-there (path_text head.path) (texts heads) a (path_text one.path) (both-true _ _ distinct).0 (get-text heads a one is_a) (ap (λ (h : Head). path_text h.path) first ∙ sym same))
apart-by (head ∷ heads) distinct (suc a) (suc b) one other is_a is_b same = ap suc (apart-by heads (both-true _ _ distinct).1 a b one other is_a is_b same)

pub heads-few : (heads : List Head) → are_heads heads ≡ true → length heads ≤ 65536
unfolding texts
heads-few heads together =
    let few : nat_le (length heads) 65536 ≡ true = (both-true (nat_le (length heads) 65536) (all_distinct (texts heads)) together).0 in
    grind (arith, nat_tests, few)

heads-are : (heads : List Head) → All IsHead heads → are_heads heads ≡ true → AreHeads heads
unfolding texts
heads-are heads each together =
    let two = both-true (nat_le (length heads) 65536) (all_distinct (texts heads)) together in
    record { few = heads-few heads together; each = each; apart = apart-by heads two.1 }

-- ---- the bench of a port

-- what the lower crates promise
pub record Laws : Type 0 where
  pub well : PortBenchesAreWellFormed
  pub runs : PortBenchesRun
  pub together : PortHeadsStandTogether
  pub read : BenchesAreReadAsPrinted

many-plans : (cycles : ℕ) (streams : List Phys) (plans : List StreamPlan) → FitEach cycles streams plans → length streams ≡ length plans
many-plans cycles [] [] fit = refl
many-plans cycles [] (plan ∷ plans) fit = absurd fit
many-plans cycles (stream ∷ streams) [] fit = absurd fit
many-plans cycles (stream ∷ streams) (plan ∷ plans) fit = ap suc (many-plans cycles streams plans fit.1)

processes-many : (first : ℕ) (streams : List Driven) → length (processes_from first streams) ≡ length streams
processes-many first [] = refl
processes-many first (d ∷ more) = ap suc (processes-many (suc first) more)

module _ (laws : Laws) (split : PlainSplit) (value : List (List Tree)) (plan : Plan) (runs : List StreamRun) (may : MayDrive split value plan) (drives : drive_of split value plan.streams ≡ Ok runs) where
  can : CanBeDriven split value plan
  can = can-drive split value plan may

  made : runs_of split value plan.streams ≡ Ok runs
  made = let f = finished-of split value plan.streams runs drives in f.made ∙ ap Ok (finished-same 0 f.all f.all runs f.finished)

  are : AreRunsOf plan.cycles (heads_of split) runs
  are = are-runs split value plan runs can made

  run_at : (k : ℕ) (s : StreamRun) → slice_get runs k ≡ Some s → RunAt split value plan.cycles 0 split.streams plan.streams k s
  run_at k s there = at split value plan runs can made k s there

  as_many : length split.streams ≡ length runs
  as_many = many-runs split value plan.cycles split.streams plan.streams 0 runs (plans-fit plan.cycles split.streams plan.streams may.plan_fits.each) made

  as_plans : length split.streams ≡ length plan.streams
  as_plans = many-plans plan.cycles split.streams plan.streams may.plan_fits.each

  bench_is : driven_runs (heads_of split) runs ≡ driven_by split.streams (lists_of runs) plan.streams
  bench_is = driven-same split.streams runs plan.streams as_many as_plans (λ k s one is_s is_one.
      let a = run_at k s is_s in
      ap (λ (r : StreamRun). r.gaps) a.is ∙ ap (λ (q : StreamPlan). q.gaps) (same_some (sym a.plan_there ∙ is_one)))

  shown : ShowLists split.streams (lists_of runs)
  shown = shown-lists split.streams runs are.params are.shown

  heads : AreHeads (heads_of split)
  heads = heads-are (heads_of split) may.heads (laws.together split may.port may.heads)

  pub well : IsWellFormed (bench_of_runs split runs)
  well = subst (λ (ds : List Driven). IsWellFormed (driving ds)) (sym bench_is) (laws.well split.streams (lists_of runs) plan heads shown may.plan_fits)

  heads_driven : (hs : List Head) (rs : List StreamRun) → length hs ≡ length rs → map (λ (d : Driven). d.head) (driven_runs hs rs) ≡ hs
  heads_driven [] rs same = refl
  heads_driven (h ∷ hs) [] same = absurd (omega (arith, same))
  heads_driven (h ∷ hs) (r ∷ rs) same = ap (λ (l : List Head). h ∷ l) (heads_driven hs rs (omega (arith, same)))

  as_heads : length (heads_of split) ≡ length runs
  as_heads = length-map split.streams head_of_stream ∙ as_many

  heads_same : (bench_of_runs split runs).heads ≡ heads_of split
  heads_same = heads_driven (heads_of split) runs as_heads

  -- every stall, every order
  pub every-stall : (edges : List Edge) (j : ℕ) (s : StreamRun) → AreOrders (length runs) edges → slice_get runs j ≡ Some s
      → map (cycle_at s.params j) (meaning (bench_of_runs split runs) edges) ≡ run_of s.params s.transfers s.gaps (map (λ (edge : Edge). get_or edge.ready j false) edges)
  every-stall edges j s orders is_s =
      let a = run_at j s is_s in
      let params : s.params ≡ a.stream.params = ap (λ (r : StreamRun). r.params) a.is in
      let gaps : s.gaps ≡ a.plan.gaps = ap (λ (r : StreamRun). r.gaps) a.is in
      let law = laws.runs split.streams (lists_of runs) plan shown may.plan_fits edges j a.stream s.transfers a.plan (subst (λ (n : ℕ). AreOrders n edges) (sym as_many) orders) a.stream_there (get-list runs j s is_s) a.plan_there in
      ap (λ (ds : List Driven). map (cycle_at s.params j) (meaning (driving ds) edges)) bench_is
      ∙ ap (λ (p : Parameters). map (cycle_at p j) (meaning (driving (driven_by split.streams (lists_of runs) plan.streams)) edges)) params
      ∙ law
      ∙ ap (λ (p : Parameters). run_of p s.transfers a.plan.gaps (map (λ (edge : Edge). get_or edge.ready j false) edges)) (sym params)
      ∙ ap (λ (l : List ℕ). run_of s.params s.transfers l (map (λ (edge : Edge). get_or edge.ready j false) edges)) (sym gaps)

  module _ (run : SimRun) (fits : FitsBench (bench_of_runs split runs) run) (is : IsRunOfPlan plan run) where
    orders : AreOrders (length runs) (edges_of run)
    orders =
        let many : length (bench_of_runs split runs).procs ≡ length runs =
        processes-many 0 (driven_runs (heads_of split) runs) ∙ sym (length-map (driven_runs (heads_of split) runs) (λ (d : Driven). d.head)) ∙ ap length heads_same ∙ as_heads in
        subst (λ (n : ℕ). AreOrders n (edges_of run)) many (are-orders (bench_of_runs split runs) run fits)

    -- a stream shows its run
    shows : (j : ℕ) (s : StreamRun) → slice_get runs j ≡ Some s
        → map (cycle_at s.params j) (meaning (bench_of_runs split runs) (edges_of run)) ≡ run_of s.params s.transfers s.gaps s.ready
    shows j s is_s =
        let a = run_at j s is_s in
        let ready : s.ready ≡ a.plan.ready = ap (λ (r : StreamRun). r.ready) a.is in
        let within : j < length run.ready = omega (arith, slice_get_within plan.streams j a.plan a.plan_there, ap length is.ready, length-map plan.streams (λ (p : StreamPlan). p.ready)) in
        let there : get_or run.ready j [] ≡ a.plan.ready =
        ap (λ (l : List (List Bool)). get_or l j []) is.ready ∙ get_or_from_slice_get (map (λ (p : StreamPlan). p.ready) plan.streams) j a.plan.ready [] (get-ready plan.streams j a.plan a.plan_there) in
        let long : length a.plan.ready ≡ run.cycles = ap length (sym ready) ∙ are.long j s is_s ∙ sym is.cycles in
        let bits : map (λ (edge : Edge). get_or edge.ready j false) (edges_of run) ≡ s.ready = bits-from run j a.plan.ready run.cycles 0 within there (omega (arith, long)) ∙ sym ready in
        every-stall (edges_of run) j s orders is_s ∙ ap (run_of s.params s.transfers s.gaps) bits

    -- in one cycle
    shows-at : (k j : ℕ) (head : Head) (s : StreamRun) (moment : Moment) → k < run.cycles → slice_get (heads_of split) j ≡ Some head → slice_get runs j ≡ Some s
        → slice_get (meaning (bench_of_runs split runs) (edges_of run)) k ≡ Some moment → cycle_at head.params j moment ≡ row_at k s
    shows-at k j head s moment less is_head is_s is_moment =
        ap (λ (p : Parameters). cycle_at p j moment) (head-params (heads_of split) runs j are.params is_head is_s)
        ∙ same_some (sym (get-cycle (meaning (bench_of_runs split runs) (edges_of run)) k is_moment)
        ∙ ap (λ (l : List Cycle). slice_get l k) (shows j s is_s)
        ∙ row-of-run s k (omega (arith, less, are.long j s is_s, is.cycles)))
      where
        get-cycle : (moments : List Moment) (i : ℕ) → slice_get moments i ≡ Some moment → slice_get (map (cycle_at s.params j) moments) i ≡ Some (cycle_at s.params j moment)
        get-cycle [] i there = absurd (no_element i moment there)
        get-cycle (m ∷ moments) zero there = let e : m ≡ moment = cc in ap (λ (x : Moment). Some (cycle_at s.params j x)) e
        get-cycle (m ∷ moments) (suc i) there = get-cycle moments i there

        head-params : (hs : List Head) (rs : List StreamRun) (i : ℕ) → params_of_heads hs ≡ map (λ (r : StreamRun). r.params) rs → slice_get hs i ≡ Some head → slice_get rs i ≡ Some s → head.params ≡ s.params
        head-params [] rs i same there here = absurd (no_element i head there)
        head-params (h ∷ hs) [] i same there here = absurd (no_element i s here)
        head-params (h ∷ hs) (r ∷ rs) zero same there here = cc
        head-params (h ∷ hs) (r ∷ rs) (suc i) same there here = let more : params_of_heads hs ≡ map (λ (x : StreamRun). x.params) rs = cc in head-params hs rs i more there here

    rows_are : rows_of (bench_of_runs split runs) run ≡ port.rows_from runs 0 plan.cycles
    rows_are =
        ap (λ (hs : List Head). rows_in hs (meaning (bench_of_runs split runs) (edges_of run))) heads_same
        ∙ rows-same (heads_of split) runs (meaning (bench_of_runs split runs) (edges_of run)) 0 plan.cycles (length-meaning (bench_of_runs split runs) run ∙ is.cycles)
        (λ i moment there.
        let number : i ≡ 0 + i = omega arith in
        cycles-same (heads_of split) runs 0 i moment as_heads (λ j head s is_head is_s.
        let stream : 0 + j ≡ j = omega arith in
        ap (λ (n : ℕ). cycle_at head.params n moment) stream
        ∙ shows-at i j head s moment (omega (arith, slice_get_within (meaning (bench_of_runs split runs) (edges_of run)) i moment there, length-meaning (bench_of_runs split runs) run)) is_head is_s there)
        ∙ ap (λ (n : ℕ). map (row_at n) runs) number)

    pub bytes-are : trace_text_of (bench_of_runs split runs) run ≡ written_text (trace_of split plan.cycles runs)
    bytes-are =
        ap (λ (hs : List Head). trace_text (version_of hs) (record { cycles = run.cycles; heads = hs; rows = rows_of (bench_of_runs split runs) run })) heads_same
        ∙ ap (λ (n : ℕ). trace_text (version_of (heads_of split)) (record { cycles = n; heads = heads_of split; rows = rows_of (bench_of_runs split runs) run })) is.cycles
        ∙ ap (λ (l : List Cycle). trace_text (version_of (heads_of split)) (record { cycles = plan.cycles; heads = heads_of split; rows = l })) rows_are

pub driven-ports-have-benches : Laws → DrivenPortsHaveBenches
driven-ports-have-benches laws split value plan runs may drives =
    let fine = well laws split value plan runs may drives in
    record { well = fine; read = laws.read (bench_of_runs split runs) fine; shows = every-stall laws split value plan runs may drives }

pub benches-show-their-runs : Laws → BenchesShowTheirRuns
benches-show-their-runs laws split value plan runs run may drives fits is = bytes-are laws split value plan runs may drives run fits is
