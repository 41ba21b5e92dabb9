use Rattle.vhdl_writer.proofs.CarryingLemmas.{nets-carry}
use Rattle.vhdl_writer.proofs.ChannelLemmas.{nets-driven}
use Rattle.vhdl_writer.proofs.laws.checked_nets_carry.Goals as goal

pub returns-clause-driven : goal.returns-clause-driven
returns-clause-driven c = nets-driven

pub returns-clause-carry : goal.returns-clause-carry
returns-clause-carry c = nets-carry
