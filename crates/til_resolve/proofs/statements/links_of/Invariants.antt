use Rattle.std.proofs.Common.{◌≡◌, take}
use Rattle.til_resolve.specs.Project.{links_of}
use Rattle.til_resolve.proofs.statements.links_of.Given as goal

abbrev pub invariant-stmts : goal.invariant-stmts
invariant-stmts l = l.links ≡ links_of (take l.stmt-index l.stmts)
