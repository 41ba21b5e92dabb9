use Rattle.std.proofs.Common.{◌≡◌, ◌∙◌, [], ◌∷◌, ◌++◌, length, take, drop, sym, subst}
use Rattle.std.proofs.lemmas.List.{take_at}
use Rattle.vhdl_meaning.specs.Meaning.{Edge, started, after_edges}
use Rattle.vhdl_meaning.specs.Standing.{StandsAt}
use Rattle.vhdl_meaning.proofs.SimLemmas.{edge-stands}
use Rattle.vhdl_meaning.proofs.sim.Sim.edge.Goals as goal

-- src/simulating.rt:52:5
pub returns-clause-stands : goal.returns-clause-stands
returns-clause-stands c = λ bench edges s.
    let old = c.args.self.now in
    let places = c.edge_all.new.places in
    let lines = c.edge_all.new.lines in
    let edge : Edge = record { ready = c.args.ready.now; order = c.args.order.now } in
    let as_many_places : length places ≡ old.places.len = c.edge_all.ensures.places.count ∙ sym old.within.count ∙ sym old.places.ok.0 in
    let as_many_lines : length lines ≡ old.lines.len = c.edge_all.ensures.lines.long ∙ sym old.fits.long ∙ sym old.lines.ok.0 in
    record {
      same = s.same;
      stands = subst (λ l. StandsAt bench.heads bench.procs l (take old.lines.len (lines ++ drop (length lines) old.lines.items)) (after_edges (edges ++ edge ∷ []) (started bench))) (sym (take_at places (drop (length places) old.places.items) old.places.len as_many_places))
          (subst (λ l. StandsAt bench.heads bench.procs places l (after_edges (edges ++ edge ∷ []) (started bench))) (sym (take_at lines (drop (length lines) old.lines.items) old.lines.len as_many_lines))
          (edge-stands old.bench bench edges edge old.places.items places old.lines.items lines s.same
          (λ now stands. c.edge_all.ensures.stands now (subst (λ l. StandsAt old.bench.heads old.bench.procs l c.as_mut_slice-2.result.now now) (sym c.as_mut_slice.ensures.value)
          (subst (λ l. StandsAt old.bench.heads old.bench.procs old.places.items l now) (sym c.as_mut_slice-2.ensures.value) stands))) s.stands));
    }
