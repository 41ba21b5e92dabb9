use Rattle.trace_compare.proofs.LawLemmas.{none_said_where_same, none_where_same}
use Rattle.trace_compare.proofs.laws.no_differences_where_same.Goals as goal

pub returns-clause-streams : goal.returns-clause-streams
returns-clause-streams c = none_where_same

pub returns-clause-texts : goal.returns-clause-texts
returns-clause-texts c = none_said_where_same
