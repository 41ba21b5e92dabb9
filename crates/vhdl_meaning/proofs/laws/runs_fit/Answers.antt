use Rattle.vhdl_meaning.proofs.laws.runs_fit.Goals as goal
use Rattle.vhdl_meaning.proofs.RunFitLemmas.{runs_fit}

-- src/laws.rt:22:1
pub returns : goal.returns
returns c = runs_fit
