use Rattle.net_text.proofs.FitLemmas.{nets-fit, cycles-have-orders}
use Rattle.net_text.proofs.NetFaults.{nets-need_no_memory}
use Rattle.net_text.proofs.laws.nets_fit.Goals as goal

pub returns-clause-fit : goal.returns-clause-fit
returns-clause-fit c = nets-fit

pub returns-clause-orders : goal.returns-clause-orders
returns-clause-orders c = cycles-have-orders

pub returns-clause-memory : goal.returns-clause-memory
returns-clause-memory c = nets-need_no_memory
