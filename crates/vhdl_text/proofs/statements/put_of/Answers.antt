use Rattle.std.proofs.Common.{◌∙◌, sym}
use Rattle.vhdl_text.proofs.StatementLemmas.{put_of-is, put_width-within}
use Rattle.vhdl_text.proofs.statements.put_of.Goals as goal

pub returns-then-is_driven : goal.returns-then-is_driven
returns-then-is_driven c = λ whole done are many.
    let heads = c.args.streams.now.heads in
    let place = c.in-Some.place in
    let wide = sym c.in-Some-put_width.ensures in
    put_of-is heads whole c.args.name.now c.args.back.now place c.in-Some-put_width.width c.mark_of.result c.in_ok-word.word c.in-Some-word.bits _ (sym c.in-Some.ensures) wide c.mark_of.ensures c.in_ok-word.ensures c.in-Some-word.is
    (sym (c.is_driven.ensures heads whole done are many (put_width-within heads place c.in-Some-put_width.width wide)) ∙ c.if-is_driven.true)

pub returns : goal.returns
returns c = λ whole done are many.
    let heads = c.args.streams.now.heads in
    let place = c.in-Some.place in
    let wide = sym c.in-Some-put_width.ensures in
    put_of-is heads whole c.args.name.now c.args.back.now place c.in-Some-put_width.width c.mark_of.result c.in_ok-word.word c.in-Some-word.bits _ (sym c.in-Some.ensures) wide c.mark_of.ensures c.in_ok-word.ensures c.in-Some-word.is
    (sym (c.is_driven.ensures heads whole done are many (put_width-within heads place c.in-Some-put_width.width wide)) ∙ c.if-is_driven.false)
