use Rattle.std.proofs.Common.{◌∙◌, Some, sym, ap, subst, arith}
use Rattle.std.proofs.lemmas.Bool.Decides.{nat_tests}
use Rattle.std.proofs.lemmas.Option.{slice_get-get_or}
use Rattle.reshape.specs.Fronts.{IsBegun}
use Rattle.reshape.proofs.FrontLemmas.{begun-more, fit-at, front-stops, front-over}
use Rattle.reshape.proofs.extending.extend.Goals as goal

pub with-requires-clause-fits : goal.with-requires-clause-fits
with-requires-clause-fits c = fit-at c.args.p.now c.args.items.now.items c.items.front.size c.index.result.now c.requires.fit (let t = c.items-test.true in let l = c.len.ensures in let ok = c.args.items.now.ok.0 in grind (arith, nat_tests)) c.index.ensures

pub items-preserved : goal.items-preserved
items-preserved c =
    let at = slice_get-get_or c.args.items.now.items c.items.front.size c.index.result.now (let t = c.items-test.true in let l = c.len.ensures in let ok = c.args.items.now.ok.0 in grind (arith, nat_tests)) ∙ ap Some (sym c.index.ensures) in
    subst (IsBegun c.args.p.now c.args.items.now.items) (sym c.in-Some.ensures.1)
    (begun-more c.args.p.now c.args.items.now.items c.items.front c.items.invariant c.index.result.now at c.in-Some.ensures.0
    (fit-at c.args.p.now c.args.items.now.items c.items.front.size c.index.result.now c.requires.fit (let t = c.items-test.true in let l = c.len.ensures in let ok = c.args.items.now.ok.0 in grind (arith, nat_tests)) c.index.ensures))

pub returns-in-None : goal.returns-in-None
returns-in-None c =
    let at = slice_get-get_or c.args.items.now.items c.items.front.size c.index.result.now (let t = c.items-test.true in let l = c.len.ensures in let ok = c.args.items.now.ok.0 in grind (arith, nat_tests)) ∙ ap Some (sym c.index.ensures) in
    front-stops c.args.p.now c.args.items.now.items c.items.front c.items.invariant c.index.result.now at c.in-None.ensures

pub returns : goal.returns
returns c = front-over c.args.p.now c.args.items.now.items c.items.front c.items.invariant (let t = c.items-test.false in let l = c.len.ensures in let ok = c.args.items.now.ok.0 in grind (arith, nat_tests))
