use Rattle.std.proofs.Common.{◌≡◌, suc, ◌-◌, false, rules, arith}
use Rattle.std.proofs.lemmas.Grind.{common_steps}
use Rattle.tydi_reading.proofs.LoopLemmas.{reads-less}
use Rattle.value_text.specs.Syntax.{field, items, member}
use Rattle.value_text.specs.Words.{is_byte}
use Rattle.value_text.proofs.SyntaxRules.{Shrinks-field, Shrinks-member}
use Rattle.value_text.proofs.tokens.+member.Goals as goal

pub Tokens::pass_member-returns-then-levels-eq0 : goal.Tokens::pass_member-returns-then-levels-eq0
unfolding member
Tokens::pass_member-returns-then-levels-eq0 t c = rw c.if-levels-eq0.true (search rules)

pub Tokens::pass_member-returns : goal.Tokens::pass_member-returns
unfolding member
Tokens::pass_member-returns t c = let deeper : c.args.levels ≡ suc (c.args.levels - 1) = omega arith in rw deeper c.pass_within.ensures

pub Tokens::pass_items-listed-requires-clause-less : goal.Tokens::pass_items-listed-requires-clause-less
Tokens::pass_items-listed-requires-clause-less t c = λ p q a k. reads-less (Shrinks-member c.args.levels) p.now q.now a k

pub Tokens::pass_items-returns-in_err-listed : goal.Tokens::pass_items-returns-in_err-listed
unfolding items
Tokens::pass_items-returns-in_err-listed t c =
    let made = c.listed.ensures (member c.args.levels) (is_byte 93) (is_byte 44) false (λ p b k. search rules) (λ p b k. search rules) (λ p q a k. search rules)
    (Shrinks-member c.args.levels) in
    first_of (search rules, grind (arith, common_steps))

pub Tokens::pass_items-returns : goal.Tokens::pass_items-returns
unfolding items
Tokens::pass_items-returns t c =
    let made = c.listed.ensures (member c.args.levels) (is_byte 93) (is_byte 44) false (λ p b k. search rules) (λ p b k. search rules) (λ p q a k. search rules)
    (Shrinks-member c.args.levels) in
    first_of (search rules, grind (arith, common_steps))

pub Tokens::pass_fields-listed-requires-clause-less : goal.Tokens::pass_fields-listed-requires-clause-less
Tokens::pass_fields-listed-requires-clause-less t c = λ p q a k. reads-less (Shrinks-field c.args.levels) p.now q.now a k

pub Tokens::pass_fields-returns-in_err-listed : goal.Tokens::pass_fields-returns-in_err-listed
unfolding items
Tokens::pass_fields-returns-in_err-listed t c =
    let made = c.listed.ensures (field (member c.args.levels)) (is_byte 125) (is_byte 44) false (λ p b k. search rules) (λ p b k. search rules) (λ p q a k. search rules)
    (Shrinks-field c.args.levels) in
    first_of (search rules, grind (arith, common_steps))

pub Tokens::pass_fields-returns : goal.Tokens::pass_fields-returns
unfolding items
Tokens::pass_fields-returns t c =
    let made = c.listed.ensures (field (member c.args.levels)) (is_byte 125) (is_byte 44) false (λ p b k. search rules) (λ p b k. search rules) (λ p q a k. search rules)
    (Shrinks-field c.args.levels) in
    first_of (search rules, grind (arith, common_steps))
