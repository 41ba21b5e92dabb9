use Rattle.vhdl_meaning.proofs.laws.meaning_goes_on.Goals as goal
use Rattle.vhdl_meaning.proofs.MeaningLemmas.{meaning_goes_on}

-- src/laws.rt:9:1
pub returns : goal.returns
returns c = meaning_goes_on
