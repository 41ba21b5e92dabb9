use Rattle.tydi_tool.proofs.BenchLawLemmas.{accepted-benches, alike-benches, refused-benches, written-benches, written-testbenches}
use Rattle.tydi_tool.proofs.laws.benches_drive_ports.Goals as goal

pub returns-clause-written : goal.returns-clause-written
returns-clause-written c = written-benches c.benches_show_their_runs.ensures.benches c.benches_show_their_runs.ensures.runs

pub returns-clause-tested : goal.returns-clause-tested
returns-clause-tested c = written-testbenches c.benches_show_their_runs.ensures.benches c.benches_show_their_runs.ensures.runs

pub returns-clause-accepted : goal.returns-clause-accepted
returns-clause-accepted c = λ known project port word other split value plan runs accepts. accepted-benches known project port word other split value plan runs accepts

pub returns-clause-refused : goal.returns-clause-refused
returns-clause-refused c = λ known project port value plan line own. refused-benches known project port value plan line own

pub returns-clause-alike : goal.returns-clause-alike
returns-clause-alike c = alike-benches
