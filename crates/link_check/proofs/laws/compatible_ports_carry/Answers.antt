use Rattle.link_check.proofs.PortTypeLemmas.{chains_keep_types}
use Rattle.link_check.proofs.TransitiveLemmas.{compatible_is_transitive}
use Rattle.link_check.proofs.TwinLemmas.{compatible_ports_rise}
use Rattle.link_check.proofs.laws.compatible_ports_carry.Goals as goal

pub returns-clause-chains : goal.returns-clause-chains
returns-clause-chains c = chains_keep_types

pub returns-clause-transitive : goal.returns-clause-transitive
returns-clause-transitive c = compatible_is_transitive

pub returns-clause-ports : goal.returns-clause-ports
returns-clause-ports c = compatible_ports_rise
