use Rattle.tydi.proofs.ExitLemmas.{all_allowed}
use Rattle.tydi.proofs.run_with.Goals as goal

pub exit_of_run-requires : goal.exit_of_run-requires
exit_of_run-requires c = all_allowed _
