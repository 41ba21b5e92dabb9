use Rattle.tydi_tool.proofs.CommandLemmas.{SaysBy-request, SaysBy-request-some}
use Rattle.tydi_tool.proofs.laws.answers_are_one.Goals as goal

pub returns-clause-one : goal.returns-clause-one
returns-clause-one c = λ request told a b p q. SaysBy-request told request a b p q

pub returns-clause-some : goal.returns-clause-some
returns-clause-some c = λ request told.
    SaysBy-request-some c.projects_have_one_answer.ensures.answer c.texts_have_one_outcome.ensures.some c.compatible_ports_carry.ensures.chains c.faults_name_streams.ensures c.texts_have_one_comparison.ensures.some told request
