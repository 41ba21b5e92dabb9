-- A driving bench shows on each stream the run of its transfers, under any ready bits and orders.
use Rattle.std.proofs.Common.{◌≡◌, ◌∙◌, ℕ, ◌<◌, Bool, false, List, [], ◌∷◌, ◌++◌, length, map, get_or, Option, refl, sym, ap, subst, append_assoc, arith}
use Rattle.std.specs.List.{All}
use Rattle.std.proofs.Math.Path.{fun_ext}
use Rattle.std.proofs.lemmas.List.{append-nil, length-map}
use Rattle.std.proofs.lemmas.Option.{get_or_from_slice_get, slice_get_within}
use Rattle.physical_stream.specs.Params.{Parameters}
use Rattle.physical_stream.specs.Signals.{Shows}
use Rattle.physical_stream.specs.Cycles.{Cycle}
use Rattle.physical_stream.specs.Counts.{transfers_of}
use Rattle.physical_stream.specs.declared.transfer.Transfer.{Transfer}
use Rattle.signal_layout.specs.declared.signal.Signal.{Signal}
use Rattle.handshake.specs.Run.{idle_of, next_cycle, run_on}
use Rattle.vhdl_text.specs.declared.bench.Stmt.{Stmt}
use Rattle.vhdl_meaning.specs.Meaning.{words_for, last_of, assigned_by, waits_at, resumed, zeros, started, after_edge, Standing, Edge, IsOrder, rows_from, cycle_at}
use Rattle.testbench.specs.Driving.{Driven, process_of, processes_from, driving, AreShown}
use Rattle.vhdl_meaning.specs.Laws.{AreOrders}
use Rattle.testbench.specs.Laws.{DrivingRuns}
use Rattle.vhdl_meaning.proofs.ProcessLemmas.{drives-waits, drives-resumed, get-map}
use Rattle.vhdl_meaning.proofs.OrderLemmas.{Only, Only-map, driven, driven-text, tail-of}
use Rattle.testbench.proofs.OwnLemmas.{only-own, get-process, length-processes}
use Rattle.testbench.proofs.WordLemmas.{lines_of}
use Rattle.testbench.proofs.FollowLemmas.{Follows, shown-so, ran-on, step}

module _ (stream : ℕ) where
  -- its own process alone drives the stream
  abbrev IsAlone : List (List Stmt) → Type 0
  IsAlone procs = (signal : Signal) → Only stream signal stream procs

  after-left : (edge : Edge) (now : Standing) → get_or (after_edge edge now).procs stream [] ≡ waits_at (resumed edge.ready (get_or now.procs stream []))
  after-left edge now = get-map waits_at (map (resumed edge.ready) now.procs) stream refl ∙ ap waits_at (get-map (resumed edge.ready) now.procs stream refl)

  resumed-alone : (edge : Edge) (now : Standing) → IsAlone now.procs → IsAlone (map (resumed edge.ready) now.procs)
  resumed-alone edge now alone signal = Only-map stream signal stream (resumed edge.ready) now.procs refl (drives-resumed stream signal edge.ready) (alone signal)

  after-alone : (edge : Edge) (now : Standing) → IsAlone now.procs → IsAlone (after_edge edge now).procs
  after-alone edge now alone signal = Only-map stream signal stream waits_at (map (resumed edge.ready) now.procs) refl (drives-waits stream signal) (resumed-alone edge now alone signal)

  after-length : (edge : Edge) (now : Standing) → length (after_edge edge now).procs ≡ length now.procs
  after-length edge now = length-map (map (resumed edge.ready) now.procs) waits_at ∙ length-map now.procs (resumed edge.ready)

  -- so that process alone changes the values of the stream
  after-values : (edge : Edge) (now : Standing) → IsAlone now.procs → stream < length now.procs → IsOrder (length now.procs) edge.order →
      (after_edge edge now).values stream ≡ lines_of stream (now.values stream) (resumed edge.ready (get_or now.procs stream []))
  after-values edge now alone within order = fun_ext (λ signal.
      ap (last_of (now.values stream signal))
      (driven stream signal (map (resumed edge.ready) now.procs) stream edge.order (resumed-alone edge now alone signal) (order.once stream within)
      ∙ ap (λ left. words_for stream signal (assigned_by left)) (get-map (resumed edge.ready) now.procs stream refl)))

  module _ (p : Parameters) (ts : List Transfer) (gaps : List ℕ) (all : All (Shows p) ts) where
    -- the process of the stream follows its run
    abbrev IsAt : List Cycle → Standing → Type 0
    IsAt before now = Follows p stream ts gaps (transfers_of before) (idle_of before) (get_or now.procs stream []) (now.values stream)

    at-next : (before : List Cycle) (edge : Edge) (now : Standing) → IsAlone now.procs → stream < length now.procs → IsOrder (length now.procs) edge.order → IsAt before now →
        IsAt (before ++ next_cycle p ts gaps before (get_or edge.ready stream false) ∷ []) (after_edge edge now)
    at-next before edge now alone within order is =
        let next : List Cycle = before ++ next_cycle p ts gaps before (get_or edge.ready stream false) ∷ [] in
        subst (λ left. Follows p stream ts gaps (transfers_of next) (idle_of next) left ((after_edge edge now).values stream)) (sym (after-left edge now))
        (subst (λ lines. Follows p stream ts gaps (transfers_of next) (idle_of next) (waits_at (resumed edge.ready (get_or now.procs stream []))) lines) (sym (after-values edge now alone within order))
        (step p stream ts gaps edge.ready before (get_or now.procs stream []) (now.values stream) all is))

    rows-run : (before : List Cycle) (now : Standing) (edges : List Edge) → IsAlone now.procs → stream < length now.procs → AreOrders (length now.procs) edges → IsAt before now →
        before ++ map (cycle_at p stream) (rows_from now edges) ≡ run_on p ts gaps before (map (λ (edge : Edge). get_or edge.ready stream false) edges)
    rows-run before now [] alone within orders is = append-nil before
    rows-run before now (edge ∷ edges) alone within orders is =
        let bit : Bool = get_or edge.ready stream false in
        let row : Cycle = next_cycle p ts gaps before bit in
        let rest : List Cycle = map (cycle_at p stream) (rows_from (after_edge edge now) edges) in
        let long = after-length edge now in
        let here : cycle_at p stream (record { values = now.values; ready = edge.ready }) ≡ row =
        ap (λ (s : Option Transfer). record { ready = bit; shown = s }) (shown-so p stream ts gaps before (get_or now.procs stream []) (now.values stream) is) in
        ap (λ (c : Cycle). before ++ c ∷ rest) here
        ∙ sym (append_assoc before (row ∷ []) rest)
        ∙ rows-run (before ++ row ∷ []) (after_edge edge now) edges (after-alone edge now alone) (subst (λ n. stream < n) (sym long) within)
        (subst (λ n. AreOrders n edges) (sym long) (tail-of (length now.procs) edge edges orders)) (at-next before edge now alone within (orders 0 edge (omega arith)) is)

pub driving_runs : DrivingRuns
driving_runs streams edges stream d shown orders is =
    let p : Parameters = d.head.params in
    let procs : List (List Stmt) = processes_from 0 streams in
    let within = slice_get_within streams stream d is in
    let shows : All (Shows p) d.transfers = subst AreShown (get_or_from_slice_get streams stream d d is) (shown stream d within) in
    let long : length (map waits_at procs) ≡ length streams = length-map procs waits_at ∙ length-processes 0 streams in
    let left : get_or (map waits_at procs) stream [] ≡ waits_at (process_of stream d) =
    get-map waits_at procs stream refl ∙ ap waits_at (get-process 0 streams stream d stream is (omega arith)) in
    let heads = map (λ (x : Driven). x.head) streams in
    let lines : (started (driving streams)).values stream ≡ lines_of stream (zeros heads stream) (process_of stream d) =
    fun_ext (λ signal. ap (last_of (zeros heads stream signal))
    (driven-text stream signal procs stream (only-own streams stream signal) ∙ ap (λ l. words_for stream signal (assigned_by l)) (get-process 0 streams stream d stream is (omega arith)))) in
    let at : Follows p stream d.transfers d.gaps 0 0 (get_or (map waits_at procs) stream []) ((started (driving streams)).values stream) =
    subst (λ l. Follows p stream d.transfers d.gaps 0 0 l ((started (driving streams)).values stream)) (sym left)
    (subst (λ v. Follows p stream d.transfers d.gaps 0 0 (waits_at (process_of stream d)) v) (sym lines)
    (ran-on p stream d.transfers d.gaps 0 (zeros heads stream) d.transfers shows refl)) in
    rows-run stream p d.transfers d.gaps shows [] (started (driving streams)) edges
    (λ signal. Only-map stream signal stream waits_at procs refl (drives-waits stream signal) (only-own streams stream signal))
    (subst (λ n. stream < n) (sym long) within) (subst (λ n. AreOrders n edges) (sym long) orders) at
