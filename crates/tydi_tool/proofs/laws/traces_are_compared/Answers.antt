use Rattle.tydi_tool.proofs.CompareLawLemmas.{driven-same, same-shows, shown-same}
use Rattle.tydi_tool.proofs.laws.traces_are_compared.Goals as goal

pub returns-clause-same : goal.returns-clause-same
returns-clause-same c = same-shows c.no_differences_where_same.ensures.streams

pub returns-clause-shown : goal.returns-clause-shown
returns-clause-shown c = shown-same c.no_differences_where_same.ensures.texts

pub returns-clause-driven : goal.returns-clause-driven
returns-clause-driven c = driven-same c.no_differences_where_same.ensures.texts
