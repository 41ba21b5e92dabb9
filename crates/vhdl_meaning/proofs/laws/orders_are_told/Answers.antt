use Rattle.vhdl_meaning.proofs.laws.orders_are_told.Goals as goal
use Rattle.vhdl_meaning.proofs.OrderingLemmas.{orders_are_told}

-- src/laws.rt:16:1
pub returns : goal.returns
returns c = orders_are_told
