use Rattle.trace_compare.proofs.LawLemmas.{one_comparison}
use Rattle.trace_compare.proofs.SomeLemmas.{some_comparison}
use Rattle.trace_compare.proofs.laws.texts_have_one_comparison.Goals as goal

pub returns-clause-one : goal.returns-clause-one
returns-clause-one c = one_comparison

pub returns-clause-some : goal.returns-clause-some
returns-clause-some c = some_comparison
