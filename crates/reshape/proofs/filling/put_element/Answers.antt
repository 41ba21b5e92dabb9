use Rattle.std.proofs.Common.{◌∙◌, ℕ, length, ap, sym, get_or, arith}
use Rattle.physical_stream.specs.Params.{Parameters}
use Rattle.scheduler.proofs.FillLemmas.{element-fits, element-written}
use Rattle.reshape.proofs.FilledLemmas.{elements-long, lane-element, words-next, words-wide}
use Rattle.reshape.proofs.filling.put_element.Goals as goal

pub index-requires : goal.index-requires
index-requires c = let some = c.requires.some in let ok = c.args.items.now.ok.0 in let from = c.from.ensures in omega (arith, some, ok, from, elements-long c.args.items.now.items)

pub put_word-requires : goal.put_word-requires
put_word-requires c =
    let some = c.requires.some in
    let from = c.from.ensures in
    element-fits c.args.p.now c.args.items.now.items c.args.lane c.args.lane c.from-in-Elem.result _ c.index.result.now c.requires.within (omega (arith, some, elements-long c.args.items.now.items)) c.requires.fits
    (c.index.ensures ∙ ap (λ (n : ℕ). get_or c.args.items.now.items n c.index.result.now) c.from.ensures) c.in-Elem.word c.in-Elem.is
    c.from-in-Elem.ensures (ap (λ (q : Parameters). q.element) c.p.view_is) c.args.content.now
    (ap length c.requires.clear ∙ words-wide c.args.p.now c.args.items.now.items c.args.lane c.requires.within c.requires.fits)

pub returns-in-Elem : goal.returns-in-Elem
returns-in-Elem c =
    let some = c.requires.some in
    words-next c.args.p.now c.args.items.now.items c.args.lane c.requires.within c.requires.fits c.put_word.new.self
    (λ parts long start.
    element-written c.args.p.now c.args.items.now.items c.args.lane c.args.lane c.from-in-Elem.result _ c.index.result.now c.requires.within (omega (arith, some, elements-long c.args.items.now.items)) c.requires.fits
    (c.index.ensures ∙ ap (λ (n : ℕ). get_or c.args.items.now.items n c.index.result.now) c.from.ensures) c.in-Elem.word c.in-Elem.is
    c.from-in-Elem.ensures (ap (λ (q : Parameters). q.element) c.p.view_is) c.args.content.now
    (ap length c.requires.clear ∙ words-wide c.args.p.now c.args.items.now.items c.args.lane c.requires.within c.requires.fits) _ c.put_word.ensures parts long (c.requires.clear ∙ start))

pub returns-in-Close : goal.returns-in-Close
returns-in-Close c =
    let there = lane-element c.args.items.now.items c.args.lane c.index.result.now c.requires.some (c.index.ensures ∙ ap (λ (n : ℕ). get_or c.args.items.now.items n c.index.result.now) c.from.ensures) in
    let clash = sym c.in-Close.is ∙ there.1 in
    absurd (let e = clash in cc)
