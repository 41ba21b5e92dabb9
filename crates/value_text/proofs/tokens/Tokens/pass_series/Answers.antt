use Rattle.std.proofs.Common.{false, rules, arith}
use Rattle.std.proofs.lemmas.Grind.{common_steps}
use Rattle.tydi_reading.proofs.LoopLemmas.{reads-less}
use Rattle.value_text.specs.Syntax.{member, series}
use Rattle.value_text.specs.Words.{is_byte, is_spaced}
use Rattle.value_text.proofs.SyntaxRules.{Shrinks-member}
use Rattle.value_text.proofs.tokens.Tokens.pass_series.Goals as goal

pub followed-requires-clause-less : goal.followed-requires-clause-less
followed-requires-clause-less c = λ p q a k. reads-less (Shrinks-member 2200) p.now q.now a (search rules)

pub returns-in_err-followed : goal.returns-in_err-followed
unfolding series
returns-in_err-followed c =
    let made = c.followed.ensures (member 2200) (is_byte 59) is_spaced false (λ p b k. search rules) (λ p b k. search rules) (λ p q a k. search rules) (Shrinks-member 2200) in
    first_of (search rules, grind (arith, common_steps))

pub returns : goal.returns
unfolding series
returns c =
    let made = c.followed.ensures (member 2200) (is_byte 59) is_spaced false (λ p b k. search rules) (λ p b k. search rules) (λ p q a k. search rules) (Shrinks-member 2200) in
    first_of (search rules, grind (arith, common_steps))
