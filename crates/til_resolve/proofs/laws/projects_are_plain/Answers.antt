use Rattle.std.proofs.Common.{refl}
use Rattle.til_resolve.proofs.PlainProjectLemmas.{port-plain_at, project-plain, streamlet-plain_at}
use Rattle.til_resolve.proofs.laws.projects_are_plain.Goals as goal

pub returns-clause-tree : goal.returns-clause-tree
returns-clause-tree c = project-plain

pub returns-clause-ports : goal.returns-clause-ports
returns-clause-ports c = port-plain_at

pub returns-clause-streamlets : goal.returns-clause-streamlets
returns-clause-streamlets c = λ project path. streamlet-plain_at project.streamlets path

pub returns-clause-tests : goal.returns-clause-tests
returns-clause-tests c = λ project path. refl
