use Rattle.std.proofs.Common.{List, [], ◌∷◌, ◌++◌, sym, ap, ◌∙◌, arith}
use Rattle.std.proofs.lemmas.List.{take_all}
use Rattle.til_resolve.specs.declared.project.Test.{Test}
use Rattle.til_resolve.specs.Declarations.{declaration}
use Rattle.til_resolve.specs.Project.{tests_in}
use Rattle.til_resolve.specs.Scope.{declarations_of}
use Rattle.til_resolve.proofs.MakingLemmas.{tests-more}
use Rattle.til_resolve.proofs.written_tests.all_tests.Goals as goal

pub numbers-preserved : goal.numbers-preserved
numbers-preserved c =
    let all = declarations_of c.args.scope.now.declared in
    c.in_ok-add_test.ensures ∙ ap (λ (l : List Test). l ++ tests_in all (declaration all c.numbers.number ∷ [])) c.numbers.invariant
    ∙ sym (tests-more all c.numbers.number (omega (arith, c.len-number-end.ensures, c.numbers-test.true)))

pub returns : goal.returns
returns c =
    let all = declarations_of c.args.scope.now.declared in
    c.numbers.invariant ∙ ap (tests_in all) (take_all c.numbers.number all (omega (arith, c.len-number-end.ensures, c.numbers-test.false)))
