use Rattle.vhdl_meaning.proofs.laws.rows_are_shown.Goals as goal
use Rattle.vhdl_meaning.proofs.ShownLemmas.{rows_are_shown}

-- src/laws.rt:18:1
pub returns : goal.returns
returns c = rows_are_shown
