use Rattle.std.proofs.Common.{◌≡◌, ◌∙◌, List, length, map, refl, sym, subst, ap, arith}
use Rattle.std.specs.Vec.{with_items}
use Rattle.std.proofs.lemmas.List.{length-map, with_items_is}
use Rattle.vhdl_meaning.specs.declared.lines.Lines.{Lines}
use Rattle.vhdl_meaning.specs.declared.process.Process.{Process}
use Rattle.vhdl_meaning.specs.Meaning.{started, zeros}
use Rattle.vhdl_meaning.specs.Held.{LinesFit, LinesHave}
use Rattle.vhdl_meaning.specs.Standing.{StandsAt}
use Rattle.vhdl_meaning.specs.Turns.{ArePlaces}
use Rattle.vhdl_meaning.proofs.StartLemmas.{zero_of, zero-fit, zero-have, puts-sound, begun-stand}
use Rattle.vhdl_meaning.proofs.sim.Sim.new.Goals as goal

pub begin_all-requires-clause-sound : goal.begin_all-requires-clause-sound
begin_all-requires-clause-sound c = puts-sound c.args.b c.requires

pub begin_all-requires-clause-lines : goal.begin_all-requires-clause-lines
begin_all-requires-clause-lines c =
    let zero = c.as_mut_slice-2.ensures.value ∙ c.in_ok-lines.ensures ∙ ap (map zero_of) c.as_slice.ensures in
    subst (LinesFit c.args.b.heads) (sym zero) (zero-fit c.args.b.heads)

pub invariant_of-result : goal.invariant_of-result
invariant_of-result c =
    let begun = c.begin_all.ensures in
    let places = c.begin_all.new.places in
    let lines = c.begin_all.new.lines in
    let zero = c.in_ok-lines.ensures ∙ ap (map zero_of) c.as_slice.ensures in
    let as_many : length lines ≡ c.in_ok-lines.lines.len =
    begun.fit.long ∙ sym (length-map c.args.b.heads zero_of) ∙ ap length (sym zero) ∙ sym c.in_ok-lines.lines.ok.0 in
    let so_many : length places ≡ c.resize.new.self.len = omega (arith, begun.within.count, c.len.ensures, c.in_ok-resize.ensures.len) in
    record {
      sound = puts-sound c.args.b c.requires;
      within = subst (ArePlaces c.args.b.procs) (sym (with_items_is c.resize.new.self places so_many)) begun.within;
      fits = subst (LinesFit c.args.b.heads) (sym (with_items_is c.in_ok-lines.lines lines as_many)) begun.fit;
    }

pub returns : goal.returns
returns c =
    let begun = c.begin_all.ensures in
    let places = c.begin_all.new.places in
    let lines = c.begin_all.new.lines in
    let zero = c.in_ok-lines.ensures ∙ ap (map zero_of) c.as_slice.ensures in
    let as_many : length lines ≡ c.in_ok-lines.lines.len =
    begun.fit.long ∙ sym (length-map c.args.b.heads zero_of) ∙ ap length (sym zero) ∙ sym c.in_ok-lines.lines.ok.0 in
    let so_many : length places ≡ c.resize.new.self.len = omega (arith, begun.within.count, c.len.ensures, c.in_ok-resize.ensures.len) in
    let have = subst (λ l. LinesHave c.args.b.heads l (zeros c.args.b.heads)) (sym (c.as_mut_slice-2.ensures.value ∙ zero)) (zero-have c.args.b.heads) in
    record {
      same = refl;
      stands = subst (λ (l : List Lines). StandsAt c.args.b.heads c.args.b.procs (with_items c.resize.new.self places).items l (started c.args.b)) (sym (with_items_is c.in_ok-lines.lines lines as_many))
          (subst (λ (l : List Process). StandsAt c.args.b.heads c.args.b.procs l lines (started c.args.b)) (sym (with_items_is c.resize.new.self places so_many))
          (begun-stand c.args.b _ lines places have begun));
    }
