use Rattle.port_elastic.proofs.ElasticLemmas.{ready-chains-finish, texts-flow}
use Rattle.port_elastic.proofs.laws.elastic_texts_are_driven.Goals as goal

pub returns-clause-texts : goal.returns-clause-texts
returns-clause-texts c = texts-flow

pub returns-clause-ready : goal.returns-clause-ready
returns-clause-ready c = ready-chains-finish
