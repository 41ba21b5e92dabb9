use Rattle.tydi.proofs.ExitLemmas.{EndsByWords-run}
use Rattle.tydi.proofs.exit_of_run.Goals as goal

pub returns-clause-run : goal.returns-clause-run
returns-clause-run g c = record { status = c.run.result; runs = c.run.ensures.runs; is = c.exit_of.ensures }

pub returns-clause-words : goal.returns-clause-words
returns-clause-words g c = EndsByWords-run _ _ c.run.result _ c.run.ensures.usage c.exit_of.ensures
