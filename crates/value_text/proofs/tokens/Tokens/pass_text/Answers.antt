use Rattle.std.proofs.Common.{false, true, rules, arith}
use Rattle.std.proofs.lemmas.Grind.{common_steps}
use Rattle.tydi_reading.proofs.LoopLemmas.{reads-less}
use Rattle.tydi_reading.specs.Lists.{repeated}
use Rattle.value_text.specs.Syntax.{root, text}
use Rattle.value_text.proofs.SyntaxRules.{Shrinks-root}
use Rattle.value_text.proofs.tokens.Tokens.pass_text.Goals as goal

pub repeated-requires-clause-less : goal.repeated-requires-clause-less
repeated-requires-clause-less c = λ p q a k. reads-less Shrinks-root p.now q.now a (search rules)

pub returns-in_err-repeated : goal.returns-in_err-repeated
unfolding text repeated
returns-in_err-repeated c =
    let made = rw c.new.ensures at (c.repeated.ensures root (λ _. false) true (λ p b k. search rules) (λ p q a k. search rules) Shrinks-root) in
    first_of (search rules, grind (arith, common_steps))

pub returns : goal.returns
unfolding text repeated
returns c =
    let made = rw c.new.ensures at (c.repeated.ensures root (λ _. false) true (λ p b k. search rules) (λ p q a k. search rules) Shrinks-root) in
    first_of (search rules, grind (arith, common_steps))
