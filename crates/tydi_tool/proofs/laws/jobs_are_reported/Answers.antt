use Rattle.tydi_tool.proofs.JobLawLemmas.{written-summaries}
use Rattle.tydi_tool.proofs.laws.jobs_are_reported.Goals as goal

pub returns : goal.returns
returns c = written-summaries c.jobs_are_carried.ensures
