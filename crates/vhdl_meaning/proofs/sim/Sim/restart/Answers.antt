use Rattle.std.proofs.Common.{◌≡◌, ◌∙◌, List, length, map, refl, sym, subst, ap, arith}
use Rattle.std.specs.Vec.{with_items}
use Rattle.std.proofs.lemmas.List.{length-map, with_items_is}
use Rattle.vhdl_meaning.specs.declared.lines.Lines.{Lines}
use Rattle.vhdl_meaning.specs.declared.process.Process.{Process}
use Rattle.vhdl_meaning.specs.Meaning.{started, zeros}
use Rattle.vhdl_meaning.specs.Held.{LinesFit, LinesHave}
use Rattle.vhdl_meaning.specs.Standing.{StandsAt}
use Rattle.vhdl_meaning.proofs.StartLemmas.{zero_of, zero-fit, zero-have, begun-stand}
use Rattle.vhdl_meaning.proofs.sim.Sim.restart.Goals as goal

pub begin_all-requires-clause-lines : goal.begin_all-requires-clause-lines
begin_all-requires-clause-lines c =
    let old = c.args.self.now in
    let heads = old.bench.heads in
    let cleared = c.clear_all.ensures ∙ ap (map zero_of) c.as_slice.ensures in
    let as_many : length c.clear_all.new.lines ≡ old.lines.len = omega (arith, ap length cleared, length-map heads zero_of, old.fits.long, old.lines.ok.0) in
    let zero = c.as_mut_slice-3.ensures.value ∙ with_items_is old.lines c.clear_all.new.lines as_many ∙ cleared in
    subst (LinesFit heads) (sym zero) (zero-fit heads)

pub returns-clause-stands : goal.returns-clause-stands
returns-clause-stands c =
    let old = c.args.self.now in
    let heads = old.bench.heads in
    let begun = c.begin_all.ensures in
    let places = c.begin_all.new.places in
    let lines = c.begin_all.new.lines in
    let cleared = c.clear_all.ensures ∙ ap (map zero_of) c.as_slice.ensures in
    let as_many : length c.clear_all.new.lines ≡ old.lines.len = omega (arith, ap length cleared, length-map heads zero_of, old.fits.long, old.lines.ok.0) in
    let zero = c.as_mut_slice-3.ensures.value ∙ with_items_is old.lines c.clear_all.new.lines as_many ∙ cleared in
    let have = subst (λ l. LinesHave heads l (zeros heads)) (sym zero) (zero-have heads) in
    let many_lines : length lines ≡ old.lines.len = omega (arith, begun.fit.long, old.fits.long, old.lines.ok.0) in
    let many_places : length places ≡ old.places.len = omega (arith, begun.within.count, old.within.count, old.places.ok.0) in
    record {
      same = refl;
      stands = subst (λ (l : List Lines). StandsAt heads old.bench.procs (with_items old.places places).items l (started old.bench))
          (sym (with_items_is (with_items old.lines c.clear_all.new.lines) lines many_lines))
          (subst (λ (l : List Process). StandsAt heads old.bench.procs l lines (started old.bench)) (sym (with_items_is old.places places many_places))
          (begun-stand old.bench _ lines places have begun));
    }
