use Rattle.til_resolve.proofs.ToldLemmas.{one-told, some-told}
use Rattle.til_resolve.proofs.laws.faults_are_told.Goals as goal

pub returns-clause-one : goal.returns-clause-one
returns-clause-one c = one-told

pub returns-clause-some : goal.returns-clause-some
returns-clause-some c = some-told
