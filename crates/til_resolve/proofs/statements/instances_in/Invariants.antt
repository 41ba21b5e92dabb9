use Rattle.std.proofs.Common.{◌≡◌, take}
use Rattle.til_resolve.specs.Declarations.{declaration}
use Rattle.til_resolve.specs.Project.{instances_in}
use Rattle.til_resolve.specs.Scope.{declarations_of}
use Rattle.til_resolve.proofs.statements.instances_in.Given as goal

abbrev pub invariant-stmts : goal.invariant-stmts
invariant-stmts l = l.instances ≡ instances_in (declarations_of l.scope.declared) (declaration (declarations_of l.scope.declared) l.number).space (take l.stmt-index l.stmts)
