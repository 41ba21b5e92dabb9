-- The processes of a monitor over the rows of a trace: before the first row, one row more, and what they say.
use Rattle.std.proofs.Common.{◌≡◌, ◌∙◌, ◌⊎◌, inl, inr, ℕ, zero, suc, ◌+◌, ◌*◌, ◌/◌, ◌%◌, ◌<◌, ◌≤◌, List, [], ◌∷◌, ◌++◌, length, take, None, Some, slice_get, refl, sym, ap, arith, add-one}
use Rattle.std.specs.Prelude.{option_map}
use Rattle.std.proofs.Math.Nat.{mod-lt}
use Rattle.std.proofs.Math.Seq.{take-suc}
use Rattle.std.proofs.lemmas.List.{length_push, take_all}
use Rattle.std.proofs.lemmas.Nat.{div-add-mod'}
use Rattle.std.proofs.lemmas.Option.{get_or_from_slice_get, slice_get_within}
use Rattle.tydi_base.proofs.PlaceLemmas.{same_or_other, slice_get-there}
use Rattle.physical_stream.specs.Cycles.{Cycle, StreamTrace}
use Rattle.physical_stream.specs.declared.head.Head.{Head}
use Rattle.physical_stream.specs.declared.head.Header.{Header}
use Rattle.cycle_trace.specs.RowSink.{CanTake, IsHeader, begun_by, with_row}
use Rattle.cycle_trace.specs.Surveying.{IsNextRow}
use Rattle.cycle_trace.specs.Trace.{TraceText, cycles_of_stream, owed, params_of_heads, streams_of}
use Rattle.cycle_trace.proofs.RowAdded.{cycles_of_stream-other, cycles_of_stream-turn, length-cycles_here}
use Rattle.cycle_trace.proofs.RowsLemmas.{length-owed_heads, some_stream}
use Rattle.cycle_trace.proofs.StreamLemmas.{length-streams, stream_of_head, stream_with}
use Rattle.cycle_trace.proofs.SurveyorLemmas.{HasTurn, has_turn}
use Rattle.trace_decode.proofs.RowLemmas.{same_some}
use Rattle.trace_decode.proofs.RunLemmas.{cycles-none, few_streams, shown-fits}
use Rattle.watch_text.specs.Statements.{PlainWatch}
use Rattle.monitor_bench.specs.Meaning.{Process, processes_of}
use Rattle.monitor_bench.specs.Standing.{AreAfter, CanTakeEdge, with_cycle}
use Rattle.monitor_bench.specs.declared.processes.Processes.{Processes}
use Rattle.monitor_bench.proofs.ProcessLemmas.{are_after-same, length-processes, process_head, with_cycle-other, with_cycle-same}
use Rattle.trace_watch.specs.Standing.{IsFresh, RunsOver, StageStands}
use Rattle.trace_watch.specs.Watched.{watched_by, watched_by_each, watched_of}
use Rattle.trace_watch.specs.declared.watch_run.WatchRun.{WatchRun}
use Rattle.trace_watch.specs.declared.watched.StreamWatched.{StreamWatched}
use Rattle.trace_watch.specs.declared.watcher.Stage.{Stage}
use Rattle.trace_watch.specs.declared.watcher.Stage.TheVariants as stages

-- ---- before the first row

pub runs-begun : (watch : PlainWatch) (header : Header) (run : WatchRun) → IsHeader header → header.heads ≡ watch.heads → IsFresh watch run → RunsOver watch (begun_by header) run
runs-begun watch header run is same fresh = record {
  heads = same;
  cycles = is.few_cycles;
  streams = few_streams header.heads is.streams;
  rows = fresh.rows;
  most = omega arith;
  after = are_after-same watch (λ stream. []) (cycles_of_stream (begun_by header)) run.processes (λ stream less. sym (cycles-none (begun_by header) stream refl)) fresh.after;
}

-- a watcher that stands for nothing has taken no row
pub nothing_taken : (watch : PlainWatch) (run : WatchRun) (stage : Stage) → StageStands watch run stage None → IsFresh watch run
nothing_taken watch run stages.Fresh stands = stands
nothing_taken watch run (stages.Other place) stands = absurd stands
nothing_taken watch run stages.Rows stands = absurd stands

-- ---- one row more

module _ (watch : PlainWatch) (t : TraceText) (run : WatchRun) (runs : RunsOver watch t run) (row : Cycle) (can : CanTake t row) (streams : ℕ) (many : streams ≡ length watch.heads) where
  few_rows : length t.rows < t.cycles * length t.heads
  few_rows = omega (arith, slice_get_within (owed (params_of_heads t.heads) t.cycles) (length t.rows) can.params can.turn, length-owed_heads t)

  all_heads : streams ≡ length t.heads
  all_heads = many ∙ sym (ap length runs.heads)

  pub some_streams : 0 < streams
  some_streams = omega (arith, all_heads, some_stream t.cycles (length t.heads) (length t.rows) few_rows)

  abbrev cycle : ℕ
  cycle = run.rows / streams

  abbrev at : ℕ
  at = run.rows % streams

  place : length t.rows ≡ cycle * length t.heads + at
  place = sym runs.rows ∙ sym (div-add-mod' run.rows streams) ∙ ap (λ (n : ℕ). cycle * n + at) all_heads

  at_within : at < length t.heads
  at_within = omega (arith, all_heads, mod-lt run.rows some_streams)

  next : IsNextRow t cycle at
  next = record { place = place; within = λ some. at_within }

  turn : HasTurn t cycle at can.params
  turn = has_turn t cycle at next can.params can.turn

  params_here : (process : Process) → slice_get (processes_of watch) at ≡ Some process → can.params ≡ process.params
  params_here process is =
      let head = process_head watch.heads watch.want watch.procs at process is in
      let same : turn.head ≡ head.0 = same_some (sym turn.there ∙ ap (λ (l : List Head). slice_get l at) runs.heads ∙ head.1.0) in
      sym turn.params ∙ ap (λ (h : Head). h.params) same ∙ sym head.1.1

  pub can_edge : CanTakeEdge watch (cycles_of_stream t) at row
  can_edge = record {
    within = omega (arith, at_within, ap length runs.heads);
    few = (let long = length-cycles_here t cycle at place at_within turn.in_cycles in let less = turn.in_cycles in let few = runs.cycles in omega arith);
    shown = λ process is. shown-fits can.params process.params row.shown (params_here process is) can.shown;
  }

  cycles_more : (stream : ℕ) → stream < length watch.heads → (stream ≡ at) ⊎ (stream ≡ at → ⊥) → with_cycle at row (cycles_of_stream t) stream ≡ cycles_of_stream (with_row t row) stream
  cycles_more stream less (inl same) =
      with_cycle-same at row (cycles_of_stream t) stream same ∙ sym (cycles_of_stream-turn t cycle at place at_within turn.in_cycles row)
      ∙ ap (cycles_of_stream (with_row t row)) (sym same)
  cycles_more stream less (inr other) =
      with_cycle-other at row (cycles_of_stream t) stream other
      ∙ sym (cycles_of_stream-other t cycle at place at_within turn.in_cycles row stream (omega (arith, less, ap length runs.heads)) other)

  pub runs-more : (new : Processes) → AreAfter watch (with_cycle at row (cycles_of_stream t)) new → RunsOver watch (with_row t row) (record { processes = new; rows = run.rows + 1 })
  runs-more new after = record {
    heads = runs.heads;
    cycles = runs.cycles;
    streams = runs.streams;
    rows = omega (arith, runs.rows, length_push t.rows row);
    most = omega (arith, few_rows, length_push t.rows row);
    after = are_after-same watch (with_cycle at row (cycles_of_stream t)) (cycles_of_stream (with_row t row)) new (λ stream less. cycles_more stream less (same_or_other stream at)) after;
  }

-- ---- what the processes say

length-watched : (processes : List Process) (streams : List StreamTrace) → length processes ≡ length streams → length (watched_by_each processes streams) ≡ length processes
length-watched [] streams long = refl
length-watched (p ∷ processes) [] long = absurd (omega (arith, long))
length-watched (p ∷ processes) (s ∷ streams) long = let more = length-watched processes streams (omega (arith, long)) in omega arith

watched_there : (processes : List Process) (streams : List StreamTrace) (i : ℕ) (process : Process) (s : StreamTrace) → slice_get processes i ≡ Some process → slice_get streams i ≡ Some s
    → slice_get (watched_by_each processes streams) i ≡ Some (watched_by process s.cycles)
watched_there [] streams i process s a b = absurd cc
watched_there (p ∷ processes) [] i process s a b = absurd cc
watched_there (p ∷ processes) (s' ∷ streams) zero process s a b =
    ap (λ (q : Process). Some (watched_by q s'.cycles)) (same_some a) ∙ ap (λ (x : StreamTrace). Some (watched_by process x.cycles)) (same_some b)
watched_there (p ∷ processes) (s' ∷ streams) (suc i) process s a b = watched_there processes streams i process s a b

module _ (watch : PlainWatch) (t : TraceText) (run : WatchRun) (runs : RunsOver watch t run) where
  long_processes : length (processes_of watch) ≡ length watch.heads
  long_processes = length-processes watch.heads watch.want watch.procs runs.after.watch_can.tables runs.after.watch_can.processes

  long_watched : length (watched_of watch (streams_of t)) ≡ length watch.heads
  long_watched = length-watched (processes_of watch) (streams_of t) (long_processes ∙ sym (length-streams t 0 t.heads ∙ ap length runs.heads)) ∙ long_processes

  pub watched-more : (stream : ℕ) (found next : List StreamWatched) (one : StreamWatched) → stream < length watch.heads
      → ((process : Process) → slice_get (processes_of watch) stream ≡ Some process → one ≡ watched_by process (cycles_of_stream t stream))
      → found ≡ take stream (watched_of watch (streams_of t)) → next ≡ found ++ one ∷ [] → next ≡ take (stream + 1) (watched_of watch (streams_of t))
  watched-more stream found next one less is so_far now =
      let all = watched_of watch (streams_of t) in
      let process = slice_get-there (processes_of watch) stream (omega (arith, less, long_processes)) in
      let head = process_head watch.heads watch.want watch.procs stream process.0 process.1 in
      let here : slice_get (streams_of t) stream ≡ Some (stream_with t stream head.0) =
      stream_of_head t stream ∙ ap (option_map (stream_with t stream)) (ap (λ (l : List Head). slice_get l stream) runs.heads ∙ head.1.0) in
      let there : slice_get all stream ≡ Some one =
      watched_there (processes_of watch) (streams_of t) stream process.0 (stream_with t stream head.0) process.1 here ∙ ap Some (sym (is process.0 process.1)) in
      let last : take (suc stream) all ≡ take stream all ++ one ∷ [] =
      take-suc all stream one (slice_get_within all stream one there) ∙ ap (λ (x : StreamWatched). take stream all ++ x ∷ []) (get_or_from_slice_get all stream one one there) in
      now ∙ ap (λ (l : List StreamWatched). l ++ one ∷ []) so_far ∙ sym last ∙ ap (λ (n : ℕ). take n all) (sym (add-one stream))

  pub watched-all : (stream : ℕ) (found : List StreamWatched) → length watch.heads ≤ stream → found ≡ take stream (watched_of watch (streams_of t)) → found ≡ watched_of watch (streams_of t)
  watched-all stream found end so_far = so_far ∙ take_all stream (watched_of watch (streams_of t)) (omega (arith, end, long_watched))
