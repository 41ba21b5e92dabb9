use Rattle.std.proofs.Common.{ap}
use Rattle.physical_stream.specs.Params.{Parameters}
use Rattle.scheduler.proofs.filling.put_element.Goals as goal
use Rattle.scheduler.proofs.FillLemmas.{element-fits, element-length, element-written, close-written}

pub put_word-requires : goal.put_word-requires
put_word-requires c =
    element-fits c.args.p.now c.args.items.now c.args.place c.args.lane c.from.result _ c.index-items-place.result c.requires.within c.requires.bound c.requires.fits c.index-items-place.is c.in-Elem.word c.in-Elem.is
    c.from.ensures (ap (λ (q : Parameters). q.element) c.p.view_is) c.args.content.now c.requires.width

pub returns-in-Elem-clause-width : goal.returns-in-Elem-clause-width
returns-in-Elem-clause-width c =
    element-length c.args.p.now c.args.items.now c.args.place c.args.lane c.from.result _ c.index-items-place.result c.requires.within c.requires.bound c.requires.fits c.index-items-place.is c.in-Elem.word c.in-Elem.is
    c.from.ensures (ap (λ (q : Parameters). q.element) c.p.view_is) c.args.content.now c.requires.width _ c.put_word.ensures

pub returns-in-Elem-clause-written : goal.returns-in-Elem-clause-written
returns-in-Elem-clause-written c =
    element-written c.args.p.now c.args.items.now c.args.place c.args.lane c.from.result _ c.index-items-place.result c.requires.within c.requires.bound c.requires.fits c.index-items-place.is c.in-Elem.word c.in-Elem.is
    c.from.ensures (ap (λ (q : Parameters). q.element) c.p.view_is) c.args.content.now c.requires.width _ c.put_word.ensures

pub returns-in-Close-clause-written : goal.returns-in-Close-clause-written
returns-in-Close-clause-written c = λ parts long start.
    close-written c.args.p.now c.args.items.now c.args.place c.args.lane 0 0 c.index-items-place.result c.requires.within c.requires.bound c.requires.fits c.index-items-place.is c.in-Close.field-0 c.in-Close.is
    c.args.content.now parts start
