use Rattle.std.proofs.Common.{take}
use Rattle.til_resolve.specs.PathsWritten.{AddsPaths, paths_of_statements}
use Rattle.til_resolve.proofs.paths.add_statements.Given as goal

abbrev pub invariant-stmts : goal.invariant-stmts
invariant-stmts l = AddsPaths l.initial.paths l.paths (paths_of_statements (take l.stmt-index l.stmts))
