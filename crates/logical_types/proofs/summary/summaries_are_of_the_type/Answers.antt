use Rattle.logical_types.proofs.SummaryLemmas.{summary-is}
use Rattle.logical_types.proofs.summary.summaries_are_of_the_type.Goals as goal

pub returns : goal.returns
returns c = summary-is
