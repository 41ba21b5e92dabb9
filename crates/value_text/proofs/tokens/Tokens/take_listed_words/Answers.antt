use Rattle.std.proofs.Common.{false, rules, arith}
use Rattle.std.proofs.lemmas.Grind.{common_steps}
use Rattle.logical_types.specs.Tree.{bits}
use Rattle.tydi_reading.proofs.LoopLemmas.{reads-less}
use Rattle.tydi_reading.specs.Lists.{repeated}
use Rattle.value_text.specs.Typed.{element, listed_values, next_value}
use Rattle.value_text.specs.Words.{is_byte}
use Rattle.value_text.proofs.TypedLemmas.{less-element, less-next}
use Rattle.value_text.proofs.tokens.Tokens.take_listed_words.Goals as goal

pub repeated-requires-clause-less : goal.repeated-requires-clause-less
repeated-requires-clause-less c = λ p q a k. reads-less (less-next _ (less-element (bits c.args.width))) p.now q.now a (search rules)

pub returns-in_err-words : goal.returns-in_err-words
unfolding listed_values repeated
returns-in_err-words c =
    let made = rw c.room_for_one.ensures at (c.repeated.ensures (next_value (element (bits c.args.width))) (is_byte 93) false (λ p b k. search rules) (λ p q a k. search rules)
    (less-next _ (less-element (bits c.args.width)))) in
    first_of (search rules, grind (arith, common_steps))

pub returns-in_err-take_byte : goal.returns-in_err-take_byte
unfolding listed_values repeated
returns-in_err-take_byte c =
    let made = rw c.room_for_one.ensures at (c.repeated.ensures (next_value (element (bits c.args.width))) (is_byte 93) false (λ p b k. search rules) (λ p q a k. search rules)
    (less-next _ (less-element (bits c.args.width)))) in
    first_of (search rules, grind (arith, common_steps))

pub returns : goal.returns
unfolding listed_values repeated
returns c =
    let made = rw c.room_for_one.ensures at (c.repeated.ensures (next_value (element (bits c.args.width))) (is_byte 93) false (λ p b k. search rules) (λ p q a k. search rules)
    (less-next _ (less-element (bits c.args.width)))) in
    first_of (search rules, grind (arith, common_steps))
