use Rattle.trace_decode.proofs.SomeLemmas.{one_text_outcome, some_text_outcome}
use Rattle.trace_decode.proofs.laws.texts_have_one_outcome.Goals as goal

pub returns-clause-outcome : goal.returns-clause-outcome
returns-clause-outcome c = one_text_outcome

pub returns-clause-some : goal.returns-clause-some
returns-clause-some c = some_text_outcome
