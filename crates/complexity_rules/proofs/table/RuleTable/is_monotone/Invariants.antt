use Rattle.complexity_rules.proofs.TableLemmas.{RowsBelow}
use Rattle.complexity_rules.proofs.table.RuleTable.is_monotone.Given as goal

abbrev pub invariant-rows : goal.invariant-rows
invariant-rows g l = RowsBelow l.self.cells l.row-index
