use Rattle.std.proofs.Common.{Err, subst}
use Rattle.cycle_trace.specs.declared.surveying.counts.SurveyFault.{SurveyFault}
use Rattle.port_gen.specs.Found.{IsLegalSurvey}
use Rattle.port_gen.proofs.SummaryLemmas.{legal-no-offence, legal-whole}
use Rattle.port_gen.proofs.surveyed.not_legal.Goals as goal

pub unreachable-requires : goal.unreachable-requires
unreachable-requires c =
    legal-no-offence c.requires.0 c.in-Offence.cycle c.in-Offence.stream c.in-Offence.rule (subst (λ (fault : SurveyFault). IsLegalSurvey c.requires.0 (Err fault)) c.in-Offence.is c.requires.1)

pub unreachable-requires-in-Unfinished : goal.unreachable-requires-in-Unfinished
unreachable-requires-in-Unfinished c =
    legal-whole c.requires.0 c.in-Unfinished.stream c.in-Unfinished.end (subst (λ (fault : SurveyFault). IsLegalSurvey c.requires.0 (Err fault)) c.in-Unfinished.is c.requires.1)
