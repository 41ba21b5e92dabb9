use Rattle.vhdl_meaning.proofs.laws.benches_are_confluent.Goals as goal
use Rattle.vhdl_meaning.proofs.OrderLemmas.{benches_are_confluent}

-- src/laws.rt:4:1
pub returns : goal.returns
returns c = benches_are_confluent
