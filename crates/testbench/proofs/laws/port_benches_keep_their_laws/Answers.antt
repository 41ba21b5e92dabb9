use Rattle.testbench.proofs.laws.port_benches_keep_their_laws.Goals as goal
use Rattle.testbench.proofs.PortLemmas.{port_benches_are_well_formed, port_benches_run}

pub returns-clause-run : goal.returns-clause-run
returns-clause-run c = port_benches_run

pub returns-clause-well_formed : goal.returns-clause-well_formed
returns-clause-well_formed c = port_benches_are_well_formed
