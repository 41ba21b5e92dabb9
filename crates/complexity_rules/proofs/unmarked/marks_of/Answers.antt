use Rattle.complexity_rules.proofs.UnmarkedLemmas.{shows_marks}
use Rattle.complexity_rules.proofs.unmarked.marks_of.Goals as goal

pub returns : goal.returns
returns c = shows_marks c.args.transfer.now 128 c.number.result c.number.ensures
