use Rattle.std.proofs.Common.{◌∙◌, ◌∷◌, [], length, ap, arith}
use Rattle.std.proofs.lemmas.List.{length-append}
use Rattle.reshape.proofs.PoolLemmas.{copied-wide, fit-element, held-element, wide-front, wide-last}
use Rattle.reshape.proofs.buffer.Buffer.push_element.Goals as goal

pub invariant_of-self-clause-fit : goal.invariant_of-self-clause-fit
invariant_of-self-clause-fit c =
    fit-element c.args.self.now.params c.args.self.now.items.items _ _ c.push_back_reserved.ensures.items
    (copied-wide c.args.self.now.params.element c.args.from c.in-Some.word _ c.args.content.now c.copy_part.ensures c.requires.within
    (wide-last c.args.self.now.params.element c.args.self.now.words.items _ _ c.in-Some.ensures.items c.args.self.now.wide)) c.args.self.now.fit

pub invariant_of-self-clause-wide : goal.invariant_of-self-clause-wide
invariant_of-self-clause-wide c = wide-front c.args.self.now.params.element c.args.self.now.words.items _ _ c.in-Some.ensures.items c.args.self.now.wide

pub invariant_of-self-clause-total : goal.invariant_of-self-clause-total
invariant_of-self-clause-total c =
    let total = c.args.self.now.total in
    let one = held-element c.args.self.now.items.items c.push_back_reserved.new.self.items c.copy_part.new.self c.push_back_reserved.ensures.items in
    let words = ap length c.in-Some.ensures.items ∙ length-append c.pop.new.self.items (c.in-Some.word ∷ []) in
    omega (arith, one, total, words)
