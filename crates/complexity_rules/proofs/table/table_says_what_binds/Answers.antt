use Rattle.complexity_rules.proofs.TableLemmas.{table_says}
use Rattle.complexity_rules.proofs.table.table_says_what_binds.Goals as goal

pub returns : goal.returns
returns c = table_says
