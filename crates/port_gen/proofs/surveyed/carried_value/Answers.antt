use Rattle.std.proofs.Common.{subst}
use Rattle.port_gen.specs.Found.{IsCarriedDecoding}
use Rattle.port_gen.proofs.SummaryLemmas.{carried-ok}
use Rattle.port_gen.proofs.surveyed.carried_value.Goals as goal

pub returns-in-Ok : goal.returns-in-Ok
returns-in-Ok c split t value users is = carried-ok split t value users c.in-Ok.decoded (subst (IsCarriedDecoding split t value users) c.in-Ok.is is)
