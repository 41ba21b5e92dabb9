use Rattle.complexity_rules.proofs.TableLemmas.{cell-binds, cell-below}
use Rattle.complexity_rules.proofs.table.binds.Goals as goal

pub returns-clause-binds : goal.returns-clause-binds
returns-clause-binds c = cell-binds c.args.rule c.number.result c.number-2.result c.args.level c.number.ensures c.number-2.ensures.value c.number-2.ensures.first

pub returns-clause-below : goal.returns-clause-below
returns-clause-below c = cell-below c.args.rule c.number.result c.number-2.result c.args.level c.number.ensures c.number-2.ensures.value c.number-2.ensures.first
