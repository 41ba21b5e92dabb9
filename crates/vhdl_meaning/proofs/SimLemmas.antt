-- The row and the edge of a simulation.
use Rattle.std.proofs.Common.{◌≡◌, ◌∙◌, ℕ, Bool, List, [], ◌∷◌, ◌++◌, length, map, slice_get, Some, sym, ap, subst}
use Rattle.std.proofs.lemmas.List.{length-map, map_push}
use Rattle.tydi_base.proofs.PlaceLemmas.{slice_get-next}
use Rattle.physical_stream.specs.Cycles.{Cycle}
use Rattle.vhdl_text.specs.declared.bench.Bench.{Bench}
use Rattle.vhdl_meaning.specs.declared.lines.Lines.{Lines}
use Rattle.vhdl_meaning.specs.declared.process.Process.{Process}
use Rattle.vhdl_meaning.specs.Meaning.{Edge, Standing, Moment, started, after_edge, after_edges, meaning, cycle_at}
use Rattle.vhdl_meaning.specs.Lines.{row_in}
use Rattle.vhdl_meaning.specs.Held.{LinesHave}
use Rattle.vhdl_meaning.specs.Standing.{StandsAt}
use Rattle.vhdl_meaning.specs.Simulated.{IsRowOf}
use Rattle.vhdl_meaning.proofs.MeaningLemmas.{after-more, length-rows_from, rows-more}
use Rattle.vhdl_meaning.proofs.RowLemmas.{row-is}

-- the signals of a stream show its row
pub shows-row : (bench : Bench) (edges : List Edge) (lines : List Lines) (one : Lines) (stream : ℕ) (ready : Bool) (cycle : Cycle) → LinesHave bench.heads lines (after_edges edges (started bench)).values →
    slice_get lines stream ≡ Some one → cycle ≡ row_in one ready → IsRowOf bench edges stream ready cycle
shows-row bench edges lines one stream ready cycle have g is edge head h bit =
    let now : Moment = record { values = (after_edges edges (started bench)).values; ready = edge.ready } in
    let front : List Cycle = map (cycle_at head.params stream) (meaning bench edges) in
    ap (λ l. slice_get (map (cycle_at head.params stream) l) (length edges)) (rows-more edges edge (started bench))
    ∙ ap (λ l. slice_get l (length edges)) (map_push (cycle_at head.params stream) (meaning bench edges) now)
    ∙ slice_get-next front (cycle_at head.params stream now) (length edges) (sym (length-map (meaning bench edges) (cycle_at head.params stream) ∙ length-rows_from (started bench) edges))
    ∙ ap (λ (c : Cycle). Some c) (sym (is ∙ ap (row_in one) (sym bit) ∙ row-is head.params one (after_edges edges (started bench)).values edge.ready stream (have stream head one h g)))

-- one edge takes a simulation from the bench after some edges to the bench after one more
pub edge-stands : (own bench : Bench) (edges : List Edge) (edge : Edge) (old new : List Process) (was is : List Lines) → own ≡ bench →
    ((now : Standing) → StandsAt own.heads own.procs old was now → StandsAt own.heads own.procs new is (after_edge edge now)) →
    StandsAt bench.heads bench.procs old was (after_edges edges (started bench)) → StandsAt bench.heads bench.procs new is (after_edges (edges ++ edge ∷ []) (started bench))
edge-stands own bench edges edge old new was is same step s =
    let here = subst (λ (b : Bench). (now : Standing) → StandsAt b.heads b.procs old was now → StandsAt b.heads b.procs new is (after_edge edge now)) same step in
    subst (StandsAt bench.heads bench.procs new is) (sym (after-more edges edge (started bench))) (here (after_edges edges (started bench)) s)
