use Rattle.testbench.proofs.laws.driving_runs.Goals as goal
use Rattle.testbench.proofs.DrivingLemmas.{driving_runs}

-- src/laws.rt:5:1
pub returns : goal.returns
returns c = driving_runs
