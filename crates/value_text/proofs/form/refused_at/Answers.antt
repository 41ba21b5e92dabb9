use Rattle.value_text.proofs.SyntaxRules.{text-none, text-told}
use Rattle.value_text.proofs.form.refused_at.Goals as goal

pub returns-in-Ok-clause-form : goal.returns-in-Ok-clause-form
returns-in-Ok-clause-form c = rw c.new-tokens.ensures at (text-told c.new-tokens.result _ c.stop.result c.in-Ok.ensures c.stop.ensures.none)

pub returns-in-Err-Refused-clause-form : goal.returns-in-Err-Refused-clause-form
returns-in-Err-Refused-clause-form c = rw c.new-tokens.ensures at (text-none c.new-tokens.result _ _ (c.in-Err-Refused.ensures (λ same. absurd cc)))

pub returns-in-Err-Unfit-clause-form : goal.returns-in-Err-Unfit-clause-form
returns-in-Err-Unfit-clause-form c = rw c.new-tokens.ensures at (text-none c.new-tokens.result _ _ (c.in-Err-Unfit.ensures (λ same. absurd cc)))
