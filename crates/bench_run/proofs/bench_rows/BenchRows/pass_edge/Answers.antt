use Rattle.std.proofs.Common.{◌≡◌, ◌∙◌, ◌<◌, List, [], length, get_or, refl, sym, subst, ap, arith, ℕ}
use Rattle.std.proofs.lemmas.List.{get_or_default}
use Rattle.vhdl_text.specs.declared.bench.Bench.{Bench}
use Rattle.vhdl_meaning.specs.Meaning.{IsOrder}
use Rattle.vhdl_meaning.specs.RunLaws.{FitsBench}
use Rattle.bench_run.specs.Traces.{edge_at, edges_from}
use Rattle.bench_run.proofs.PlaceLemmas.{all-bits, stands-next}
use Rattle.bench_run.proofs.bench_rows.BenchRows.pass_edge.Goals as goal

pub edge-requires : goal.edge-requires
edge-requires c =
    let self = c.args.self.now in
    let less : self.number < length self.run.orders = omega (arith, c.requires.more, self.at.fits.edges) in
    let order : c.as_slice-3.result.now ≡ get_or self.run.orders self.number [] =
    c.as_slice-3.ensures ∙ c.index-as_slice-self.is ∙ ap (λ (l : List (List ℕ)). get_or l self.number c.index-as_slice-self.result) c.as_slice.ensures
    ∙ get_or_default self.run.orders self.number c.index-as_slice-self.result [] less in
    subst (IsOrder (length self.sim.bench.procs)) (sym order) (self.at.fits.orders self.number [] less)

pub invariant_of-self : goal.invariant_of-self
invariant_of-self c =
    let self = c.args.self.now in
    let new = c.edge.new.self in
    let same : new.bench ≡ self.sim.bench = c.edge.ensures.bench in
    let less : self.number < length self.run.orders = omega (arith, c.requires.more, self.at.fits.edges) in
    let order : c.as_slice-3.result.now ≡ get_or self.run.orders self.number [] =
    c.as_slice-3.ensures ∙ c.index-as_slice-self.is ∙ ap (λ (l : List (List ℕ)). get_or l self.number c.index-as_slice-self.result) c.as_slice.ensures
    ∙ get_or_default self.run.orders self.number c.index-as_slice-self.result [] less in
    let ready : c.as_slice-2.result.now ≡ (edge_at self.run self.number).ready =
    c.as_slice-2.ensures.value ∙ all-bits self.run self.kept.items self.number self.stream (length self.sim.bench.heads) self.at.room self.at.fits.streams (omega (arith, c.requires.over, self.kept.ok.0, self.at.room)) self.at.bits in
    record {
      at = record {
        fits = subst (λ (b : Bench). FitsBench b self.run) (sym same) self.at.fits;
        stands = stands-next new self.sim.bench self.run self.number c.as_slice-2.result.now c.as_slice-3.result.now same ready order (c.edge.ensures.stands self.sim.bench (edges_from self.run 0 self.number) self.at.stands);
        room = self.at.room ∙ ap (λ (b : Bench). length b.heads) (sym same);
        bits = refl;
        within = omega arith;
        few = omega (arith, c.requires.more);
      };
    }
