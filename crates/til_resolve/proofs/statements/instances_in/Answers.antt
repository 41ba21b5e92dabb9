use Rattle.std.proofs.Common.{List, ◌++◌, [], ◌∷◌, sym, ap, ◌∙◌}
use Rattle.til_resolve.specs.declared.project.Instance.{Instance}
use Rattle.til_resolve.specs.Declarations.{declaration}
use Rattle.til_resolve.specs.Project.{instances_in}
use Rattle.til_resolve.specs.Scope.{declarations_of}
use Rattle.til_resolve.proofs.MakingLemmas.{instances-more_in}
use Rattle.til_resolve.proofs.statements.instances_in.Goals as goal

pub stmts-preserved : goal.stmts-preserved
stmts-preserved c =
    let all = declarations_of c.args.scope.now.declared in
    let space = (declaration all c.args.number).space in
    c.in_ok-add_instance.ensures ∙ ap (λ (l : List Instance). l ++ instances_in all space (c.stmt-item.result ∷ [])) c.stmts.invariant
    ∙ sym (instances-more_in all space c.args.stmts.now c.stmts.stmt-index c.stmt-item.result c.stmts-test.true c.stmt-item.is)
