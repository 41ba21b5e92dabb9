use Rattle.vhdl_writer.proofs.ClashLemmas.{first-reported}
use Rattle.vhdl_writer.proofs.laws.first_clash_is_reported.Goals as goal

pub returns : goal.returns
returns c = first-reported
