use Rattle.port_gen.proofs.SummaryLemmas.{legal-ok}
use Rattle.std.proofs.Common.{subst}
use Rattle.port_gen.specs.Found.{IsLegalSurvey}
use Rattle.port_gen.proofs.surveyed.legal_counts.Goals as goal

pub returns-in-Ok : goal.returns-in-Ok
returns-in-Ok c t is = legal-ok t c.in-Ok.counts (subst (IsLegalSurvey t) c.in-Ok.is is)
