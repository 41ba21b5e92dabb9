use Rattle.testbench.proofs.laws.driving_is_well_formed.Goals as goal
use Rattle.testbench.proofs.WellLemmas.{driving_is_well_formed}

-- src/laws.rt:10:1
pub returns : goal.returns
returns c = driving_is_well_formed
