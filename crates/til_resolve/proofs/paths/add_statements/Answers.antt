use Rattle.til_resolve.proofs.PathsWrittenLemmas.{AddsPaths-statement}
use Rattle.til_resolve.proofs.paths.add_statements.Goals as goal

pub stmts-preserved : goal.stmts-preserved
stmts-preserved c =
    AddsPaths-statement c.args.stmts.now c.stmts.stmt-index c.stmt-item.result _ _ _ c.stmts-test.true c.stmt-item.is c.in_ok-add_statement.ensures c.stmts.invariant
