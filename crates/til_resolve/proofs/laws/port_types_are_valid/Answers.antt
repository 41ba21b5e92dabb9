use Rattle.til_resolve.proofs.PortTypeLemmas.{found-valid, ports-valid}
use Rattle.til_resolve.proofs.laws.port_types_are_valid.Goals as goal

pub returns-clause-each : goal.returns-clause-each
returns-clause-each c = ports-valid

pub returns-clause-found : goal.returns-clause-found
returns-clause-found c = found-valid
