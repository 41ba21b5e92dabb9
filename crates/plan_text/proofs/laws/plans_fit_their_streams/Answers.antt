use Rattle.plan_text.proofs.FitBlocks.{plan_of-fits}
use Rattle.plan_text.proofs.laws.plans_fit_their_streams.Goals as goal

pub returns : goal.returns
returns c = plan_of-fits
