use Rattle.watch_text.proofs.TableLengths.{tables-are_shorter}
use Rattle.watch_text.proofs.laws.tables_are_shorter_than_their_text.Goals as goal

pub returns : goal.returns
returns c = tables-are_shorter
