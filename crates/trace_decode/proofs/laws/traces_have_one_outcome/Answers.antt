use Rattle.trace_decode.proofs.LawLemmas.{disagreeing_carry_none, items_carry_one, one_outcome}
use Rattle.trace_decode.proofs.SomeLemmas.{some_outcome}
use Rattle.trace_decode.proofs.laws.traces_have_one_outcome.Goals as goal

pub returns-clause-outcome : goal.returns-clause-outcome
returns-clause-outcome c = one_outcome

pub returns-clause-some : goal.returns-clause-some
returns-clause-some c = some_outcome

pub returns-clause-none : goal.returns-clause-none
returns-clause-none c = disagreeing_carry_none

pub returns-clause-one : goal.returns-clause-one
returns-clause-one c = items_carry_one
