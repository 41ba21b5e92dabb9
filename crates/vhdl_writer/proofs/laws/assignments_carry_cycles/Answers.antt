use Rattle.vhdl_writer.proofs.CarriedLemmas.{carried}
use Rattle.vhdl_writer.proofs.laws.assignments_carry_cycles.Goals as goal

pub returns : goal.returns
returns c = carried
