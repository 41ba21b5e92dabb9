use Rattle.std.proofs.Common.{◌≡◌, ◌∙◌, ◌+◌, ◌<◌, List, [], ◌∷◌, ◌++◌, length, take, get_or, sym, subst, ap, arith}
use Rattle.std.proofs.lemmas.List.{length-set, take_more, take_more_set, get_or_default}
use Rattle.vhdl_text.specs.declared.bench.Stmt.{Stmt}
use Rattle.vhdl_meaning.specs.declared.process.Process.{Process}
use Rattle.vhdl_meaning.specs.Started.{AreBegun}
use Rattle.vhdl_meaning.proofs.StartLemmas.{begin-can, begun-more}
use Rattle.vhdl_meaning.proofs.starting.begin_all.Goals as goal

pub run_from-requires-clause-puts : goal.run_from-requires-clause-puts
run_from-requires-clause-puts c =
    let less : c.programs.number < length c.as_slice-programs.result.now = c.programs-test.true in
    let is : c.as_slice.result.now ≡ get_or c.args.bench.now.procs c.programs.number [] =
    c.as_slice.ensures ∙ c.index-programs-number.is ∙ get_or_default c.as_slice-programs.result.now c.programs.number c.index-programs-number.result [] less
    ∙ ap (λ (l : List (List Stmt)). get_or l c.programs.number []) c.as_slice-programs.ensures in
    begin-can c.args.bench.now.heads c.args.bench.now.procs c.requires.sound c.programs.number c.as_slice.result.now is c.programs.lines c.programs.invariant.begun.fit

pub programs-preserved : goal.programs-preserved
programs-preserved c =
    let less : c.programs.number < length c.as_slice-programs.result.now = c.programs-test.true in
    let same : c.as_slice.result.now ≡ get_or c.as_slice-programs.result.now c.programs.number [] =
    c.as_slice.ensures ∙ c.index-programs-number.is ∙ get_or_default c.as_slice-programs.result.now c.programs.number c.index-programs-number.result [] less in
    let is : c.as_slice.result.now ≡ get_or c.args.bench.now.procs c.programs.number [] =
    same ∙ ap (λ (l : List (List Stmt)). get_or l c.programs.number []) c.as_slice-programs.ensures in
    let done : List (List Stmt) = take c.programs.number c.as_slice-programs.result.now in
    let there : c.programs.number < length c.programs.places =
    omega (arith, less, ap length c.as_slice-programs.ensures, c.programs.invariant.many, c.requires.places) in
    record {
      many = length-set c.programs.places c.programs.number c.run_from.result ∙ c.programs.invariant.many;
      begun =
          subst (λ (l : List Process). AreBegun c.args.bench.now.heads (take (c.programs.number + 1) c.as_slice-programs.result.now) c.args.lines.now l c.run_from.new.lines)
          (sym (take_more_set c.programs.places c.programs.number c.run_from.result there))
          (subst (λ l. AreBegun c.args.bench.now.heads l c.args.lines.now (take c.programs.number c.programs.places ++ c.run_from.result ∷ []) c.run_from.new.lines)
          (ap (λ p. done ++ p ∷ []) same ∙ sym (take_more c.as_slice-programs.result.now c.programs.number [] less))
          (begun-more c.args.bench.now.heads c.args.bench.now.procs c.requires.sound c.programs.number c.as_slice.result.now is done c.args.lines.now c.programs.lines c.run_from.new.lines
          (take c.programs.number c.programs.places) c.run_from.result c.programs.invariant.begun c.run_from.ensures.left c.run_from.ensures.within c.run_from.ensures.lines));
    }
