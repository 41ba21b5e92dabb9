use Rattle.value_text.proofs.StopLemmas.{no-form}
use Rattle.value_text.proofs.reading.read.Goals as goal

pub returns-in-Some-clause-value : goal.returns-in-Some-clause-value
returns-in-Some-clause-value c = no-form c.args.text.now c.in_ok-left.field-0 c.in-Some.left c.in_ok-syntax_place.field-0 c.in-Some.is c.in_ok-left.ensures.form c.in_ok-left.ensures.stop c.in_ok-syntax_place.ensures
