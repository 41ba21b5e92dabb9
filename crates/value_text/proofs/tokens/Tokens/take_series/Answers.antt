use Rattle.std.proofs.Common.{false, rules, arith}
use Rattle.std.proofs.lemmas.Grind.{common_steps}
use Rattle.logical_types.specs.Tree.{plain}
use Rattle.tydi_reading.proofs.LoopLemmas.{reads-less}
use Rattle.tydi_reading.specs.Lists.{repeated}
use Rattle.value_text.specs.Port.{series_values}
use Rattle.value_text.specs.Typed.{element, nest}
use Rattle.value_text.specs.Words.{is_byte}
use Rattle.value_text.proofs.TypedLemmas.{less-element, less-nest}
use Rattle.value_text.proofs.tokens.Tokens.take_series.Goals as goal

pub repeated-requires-clause-less : goal.repeated-requires-clause-less
repeated-requires-clause-less c = λ p q a k. reads-less (less-nest _ c.args.depth (less-element (plain c.args.element.now))) p.now q.now a (search rules)

pub returns-in_err-series : goal.returns-in_err-series
unfolding series_values repeated
returns-in_err-series c =
    let made = rw c.new.ensures at (c.repeated.ensures (nest (element (plain c.args.element.now)) c.args.depth) (is_byte 59) false (λ p b k. search rules) (λ p q a k. search rules)
    (less-nest _ c.args.depth (less-element (plain c.args.element.now)))) in
    first_of (search rules, grind (arith, common_steps))

pub returns-in_err-take_byte : goal.returns-in_err-take_byte
unfolding series_values repeated
returns-in_err-take_byte c =
    let made = rw c.new.ensures at (c.repeated.ensures (nest (element (plain c.args.element.now)) c.args.depth) (is_byte 59) false (λ p b k. search rules) (λ p q a k. search rules)
    (less-nest _ c.args.depth (less-element (plain c.args.element.now)))) in
    first_of (search rules, grind (arith, common_steps))

pub returns : goal.returns
unfolding series_values repeated
returns c =
    let made = rw c.new.ensures at (c.repeated.ensures (nest (element (plain c.args.element.now)) c.args.depth) (is_byte 59) false (λ p b k. search rules) (λ p q a k. search rules)
    (less-nest _ c.args.depth (less-element (plain c.args.element.now)))) in
    first_of (search rules, grind (arith, common_steps))
