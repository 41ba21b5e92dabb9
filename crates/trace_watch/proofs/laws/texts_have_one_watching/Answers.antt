use Rattle.trace_watch.proofs.LawLemmas.{some_watching}
use Rattle.trace_watch.proofs.laws.texts_have_one_watching.Goals as goal

pub returns-clause-some : goal.returns-clause-some
returns-clause-some c = some_watching
