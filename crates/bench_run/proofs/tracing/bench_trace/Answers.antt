use Rattle.std.proofs.Common.{◌≡◌, ◌∙◌, ℕ, List, ◌++◌, sym, subst, ap}
use Rattle.physical_stream.specs.Cycles.{Cycle}
use Rattle.physical_stream.specs.Params.{Parameters}
use Rattle.cycle_trace.specs.Spelling.{header_text}
use Rattle.cycle_trace.specs.Trace.{params_of_heads}
use Rattle.cycle_trace.specs.Version.{version_of}
use Rattle.trace_pieces.specs.Rows.{AreShownFrom, rows_from}
use Rattle.bench_run.specs.Traces.{rows_of}
use Rattle.bench_run.specs.Turns.{rows_left}
use Rattle.bench_run.proofs.HeadLemmas.{heads-together}
use Rattle.bench_run.proofs.PlaceLemmas.{left-at-start}
use Rattle.bench_run.proofs.TraceLemmas.{text-is, trace-made}
use Rattle.bench_run.proofs.tracing.bench_trace.Goals as goal

pub write_header-requires-clause-streams : goal.write_header-requires-clause-streams
write_header-requires-clause-streams c = heads-together c.args.bench.heads c.requires.bench.heads

pub measured-requires-clause-shown : goal.measured-requires-clause-shown
measured-requires-clause-shown c =
    let rows = c.in_ok-rows.rows in
    let made = c.in_ok-rows.ensures in
    let left : rows_left rows ≡ rows_of c.args.bench c.args.run = left-at-start rows.sim.bench c.args.bench rows.run c.args.run rows.number rows.stream made.bench made.run made.number made.stream in
    let streams : c.in_ok-streams.streams ≡ params_of_heads c.args.bench.heads = c.in_ok-streams.ensures ∙ ap params_of_heads c.as_slice.ensures in
    subst (λ (ps : List Parameters). AreShownFrom ps 0 (rows_left rows)) (sym streams)
    (subst (AreShownFrom (params_of_heads c.args.bench.heads) 0) (sym left) (trace-made c.args.bench c.args.run c.requires.bench))

pub returns-clause-text : goal.returns-clause-text
returns-clause-text c =
    let rows = c.in_ok-rows.rows in
    let made = c.in_ok-rows.ensures in
    let left : rows_left rows ≡ rows_of c.args.bench c.args.run = left-at-start rows.sim.bench c.args.bench rows.run c.args.run rows.number rows.stream made.bench made.run made.number made.stream in
    let streams : c.in_ok-streams.streams ≡ params_of_heads c.args.bench.heads = c.in_ok-streams.ensures ∙ ap params_of_heads c.as_slice.ensures in
    let header : List ℕ = header_text (version_of c.args.bench.heads) c.args.run.cycles c.args.bench.heads in
    let written : c.write_header.new.out ≡ header = c.in_ok-write_header.ensures.ok ∙ ap (λ (l : List ℕ). l ++ header) c.new-text.ensures in
    c.measured.ensures.text
    ∙ ap (λ (l : List ℕ). l ++ rows_from c.in_ok-streams.streams 0 (rows_left rows)) written
    ∙ ap (λ (ps : List Parameters). header ++ rows_from ps 0 (rows_left rows)) streams
    ∙ ap (λ (l : List Cycle). header ++ rows_from (params_of_heads c.args.bench.heads) 0 l) left
    ∙ text-is c.args.bench c.args.run c.requires.bench
