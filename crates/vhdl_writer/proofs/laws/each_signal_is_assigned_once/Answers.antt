use Rattle.vhdl_writer.proofs.SetLemmas.{assigned-once}
use Rattle.vhdl_writer.proofs.laws.each_signal_is_assigned_once.Goals as goal

pub returns : goal.returns
returns c = assigned-once c.paths_are_read_as_spelled.ensures.spelled
