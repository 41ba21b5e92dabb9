-- The trace of a bench under a run.
use Rattle.std.proofs.Common.{◌≡◌, ◌∙◌, ℕ, zero, suc, ◌+◌, ◌<◌, ◌≤◌, List, [], ◌∷◌, ◌++◌, map, take, drop, get_or, slice_get, Option, Some, IfSome, refl, sym, ap, subst, arith}
use Rattle.std.specs.Option.{option_to_list}
use Rattle.std.proofs.lemmas.List.{take_all, take_more, map_push}
use Rattle.std.proofs.lemmas.Option.{get_or_from_slice_get, slice_get-get_or, slice_get_within}
use Rattle.physical_stream.specs.Cycles.{Cycle, StreamTrace}
use Rattle.physical_stream.specs.Items.{parts_below}
use Rattle.physical_stream.specs.Signals.{Shows}
use Rattle.physical_stream.specs.declared.head.Head.{Head}
use Rattle.physical_stream.specs.declared.transfer.Transfer.{Transfer}
use Rattle.handshake.proofs.CursorLemmas.{drop-get, drop-next}
use Rattle.cycle_trace.specs.Spelling.{header_text, trace_text}
use Rattle.cycle_trace.specs.Trace.{AreShown, IsTrace, cycles_of_stream, owed, params_of_heads, row_in, streams_of}
use Rattle.cycle_trace.specs.Trace as traces
use Rattle.cycle_trace.specs.Version.{version_of}
use Rattle.cycle_trace.proofs.TraceSpelling.{trace_of-spelled}
use Rattle.trace_pieces.specs.Rows.{AreShownFrom, rows_from}
use Rattle.trace_pieces.proofs.LawLemmas.{rows-made, rows-spelled}
use Rattle.trace_pieces.proofs.RunLemmas.{get-map}
use Rattle.vhdl_text.specs.WellFormed.{IsWellFormed}
use Rattle.vhdl_text.specs.declared.bench.Bench.{Bench}
use Rattle.vhdl_meaning.specs.Meaning.{Moment, cycle_at, meaning}
use Rattle.vhdl_meaning.specs.RunLaws.{FitsBench}
use Rattle.vhdl_meaning.specs.declared.run.SimRun.{SimRun}
use Rattle.vhdl_meaning.proofs.ShownLemmas.{rows_are_shown}
use Rattle.bench_run.specs.Laws.{BenchesMakeTraces, TextsAreConfluent}
use Rattle.bench_run.specs.Traces.{edges_of, rows_in, rows_of, streams_from, trace_of, trace_text_of}
use Rattle.bench_run.proofs.HeadLemmas.{heads-together, version-fits}
use Rattle.bench_run.proofs.MomentLemmas.{length-meaning, same-meaning}
use Rattle.bench_run.proofs.RowLemmas.{IsShownAt, row-there, rows-shown}

some-if : (P : Transfer → Type 0) (o : Option Transfer) (t : Transfer) → IfSome o P → o ≡ Some t → P t
some-if P o t all is = subst (λ (x : Option Transfer). IfSome x P) is all

-- each stream shows in each moment only what it can show
moments-shown : (bench : Bench) (run : SimRun) → IsWellFormed bench → (c : ℕ) (moment : Moment) → slice_get (meaning bench (edges_of run)) c ≡ Some moment → IsShownAt bench.heads moment
moments-shown bench run well c moment at stream head t there is =
    let row : Cycle = cycle_at head.params stream moment in
    let found = get-map (cycle_at head.params stream) (meaning bench (edges_of run)) c moment at in
    let rows : List Cycle = map (cycle_at head.params stream) (meaning bench (edges_of run)) in
    let all = rows_are_shown bench (edges_of run) stream head well there c row (slice_get_within rows c row found) in
    some-if (Shows head.params) row.shown t (subst (λ (one : Cycle). IfSome one.shown (Shows head.params)) (get_or_from_slice_get rows c row row found) all) is

pub trace-shown : (bench : Bench) (run : SimRun) → IsWellFormed bench → AreShown (owed (params_of_heads bench.heads) run.cycles) (rows_of bench run)
trace-shown bench run well =
    subst (λ n. AreShown (owed (params_of_heads bench.heads) n) (rows_of bench run)) (length-meaning bench run)
    (rows-shown bench.heads (meaning bench (edges_of run)) (moments-shown bench run well))

-- the rows can be made into text from the first on
pub trace-made : (bench : Bench) (run : SimRun) → IsWellFormed bench → AreShownFrom (params_of_heads bench.heads) 0 (rows_of bench run)
trace-made bench run well = rows-made (params_of_heads bench.heads) run.cycles (rows_of bench run) (trace-shown bench run well)

-- the header and the rows that are made are the text of the trace
pub text-is : (bench : Bench) (run : SimRun) → IsWellFormed bench →
    header_text (version_of bench.heads) run.cycles bench.heads ++ rows_from (params_of_heads bench.heads) 0 (rows_of bench run) ≡ trace_text_of bench run
text-is bench run well =
    ap (λ (l : List ℕ). header_text (version_of bench.heads) run.cycles bench.heads ++ l)
    (rows-spelled (params_of_heads bench.heads) run.cycles (rows_of bench run) (trace-shown bench run well).many)

pub is-trace : (bench : Bench) (run : SimRun) → IsWellFormed bench → FitsBench bench run → IsTrace (trace_of bench run)
is-trace bench run well fits = record { few_cycles = fits.cycles; streams = heads-together bench.heads well.heads; shown = trace-shown bench run well }

-- ---- the streams of the trace

module _ (bench : Bench) (run : SimRun) where
  abbrev moments : List Moment
  moments = meaning bench (edges_of run)

  moment-here : (c : ℕ) → c < run.cycles → slice_get moments c ≡ Some (get_or moments c (record { values = λ stream signal. []; ready = [] }))
  moment-here c less = slice_get-get_or moments c (record { values = λ stream signal. []; ready = [] }) (omega (arith, less, length-meaning bench run))

  cycles-below : (c stream : ℕ) (head : Head) → c ≤ run.cycles → slice_get bench.heads stream ≡ Some head → parts_below (row_in (trace_of bench run) stream) c ≡ map (cycle_at head.params stream) (take c moments)
  cycles-below zero stream head within there = refl
  cycles-below (suc c) stream head within there =
      let d : Moment = record { values = λ stream signal. []; ready = [] } in
      let next : c + 1 ≡ suc c = omega arith in
      ap (λ (l : List Cycle). l ++ row_in (trace_of bench run) stream c) (cycles-below c stream head (omega (arith, within)) there)
      ∙ ap (λ (o : Option Cycle). map (cycle_at head.params stream) (take c moments) ++ option_to_list o) (row-there c stream bench.heads moments (get_or moments c d) head (moment-here c (omega (arith, within))) there)
      ∙ sym (map_push (cycle_at head.params stream) (take c moments) (get_or moments c d))
      ∙ sym (ap (map (cycle_at head.params stream)) (take_more moments c d (omega (arith, within, length-meaning bench run))))
      ∙ ap (λ n. map (cycle_at head.params stream) (take n moments)) next

  cycles-are : (stream : ℕ) (head : Head) → slice_get bench.heads stream ≡ Some head → cycles_of_stream (trace_of bench run) stream ≡ map (cycle_at head.params stream) moments
  cycles-are stream head there =
      cycles-below run.cycles stream head (omega arith) there ∙ ap (map (cycle_at head.params stream)) (take_all run.cycles moments (omega (arith, length-meaning bench run)))

  streams-behind : (heads : List Head) (stream : ℕ) → drop stream bench.heads ≡ heads → traces.streams_from (trace_of bench run) stream heads ≡ streams_from stream heads moments
  streams-behind [] stream is = refl
  streams-behind (head ∷ heads) stream is =
      ap (λ (l : List Cycle). record { params = head.params; cycles = l } ∷ traces.streams_from (trace_of bench run) (suc stream) heads) (cycles-are stream head (drop-get bench.heads stream head heads is))
      ∙ ap (λ (l : List StreamTrace). record { params = head.params; cycles = map (cycle_at head.params stream) moments } ∷ l) (streams-behind heads (suc stream) (drop-next bench.heads stream head heads is))

  pub streams-are : streams_of (trace_of bench run) ≡ streams_from 0 bench.heads moments
  streams-are = streams-behind bench.heads 0 refl

-- ---- the laws

pub benches-make-traces : BenchesMakeTraces
benches-make-traces bench run well fits = record {
  is_trace = is-trace bench run well fits;
  read = trace_of-spelled (version_of bench.heads) (trace_of bench run) (is-trace bench run well fits) well.heads.each (version-fits bench.heads);
  streams = streams-are bench run;
}

pub texts-are-confluent : TextsAreConfluent
texts-are-confluent bench one other well is_one is_other cycles ready =
    ap (λ n. trace_text (version_of bench.heads) (record { cycles = n; heads = bench.heads; rows = rows_of bench one })) cycles
    ∙ ap (λ (ms : List Moment). trace_text (version_of bench.heads) (record { cycles = other.cycles; heads = bench.heads; rows = rows_in bench.heads ms })) (same-meaning bench one other well is_one is_other cycles ready)
