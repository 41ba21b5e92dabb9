use Rattle.std.proofs.Common.{◌∙◌, ◌+◌, ◌≤◌, ℕ, length, sym, subst, ap, arith}
use Rattle.physical_stream.specs.Params.{Parameters}
use Rattle.reshape.proofs.CountLemmas.{IsCounting, counted-last, counting-more, counting-next}
use Rattle.reshape.proofs.FrontLemmas.{fit-at, with-size}
use Rattle.reshape.specs.Fronts.{no_front}
use Rattle.reshape.specs.declared.front.Front.{Front}
use Rattle.reshape.proofs.counting.far_count.Goals as goal
use Rattle.reshape.proofs.counting.far_count.Goals.{in-Some, in-None}

pub with-requires-clause-fits : goal.with-requires-clause-fits
with-requires-clause-fits c = fit-at c.args.to.now c.args.items.now c.items.item-index c.item-item.result c.requires.fit c.items-test.true c.item-item.is

pub of-front-requires : goal.of-front-requires
of-front-requires c = fit-at c.args.to.now c.args.items.now c.items.item-index c.item-item.result c.requires.fit c.items-test.true c.item-item.is

pub items-preserved : goal.items-preserved
items-preserved c =
    let some = c.to.invariant.some_lane in
    let lanes = ap (λ (p : Parameters). p.lanes) c.to.view_is in
    let fit = fit-at c.args.to.now c.args.items.now c.items.item-index c.item-item.result c.requires.fit c.items-test.true c.item-item.is in
    elim c.match-with.branch [
      | in-Some w ↦
          subst (λ (n : ℕ). IsCounting c.args.to.now c.args.items.now n c.match-with.front (c.items.item-index + 1)) (sym w.count-is)
          (subst (λ (f : Front). IsCounting c.args.to.now c.args.items.now c.items.count f (c.items.item-index + 1)) (sym w.front-is)
          (counting-more c.args.to.now c.args.items.now c.items.count c.items.front c.items.item-index c.items.invariant c.items-test.true c.item-item.result c.item-item.is fit w.in-Some.ensures.0 w.in-Some.more w.in-Some.ensures.1
          (ap (λ (f : Front). f.size) w.in-Some.ensures.1 ∙ with-size c.items.front c.item-item.result)))
      | in-None w ↦
          subst (λ (n : ℕ). IsCounting c.args.to.now c.args.items.now n c.match-with.front (c.items.item-index + 1)) (sym w.count-is)
          (subst (λ (f : Front). IsCounting c.args.to.now c.args.items.now (c.items.count + 1) f (c.items.item-index + 1)) (sym w.front-is)
          (counting-next c.args.to.now c.args.items.now c.items.count c.items.front c.items.item-index c.items.invariant c.items-test.true c.item-item.result c.item-item.is (omega (arith, some, lanes)) fit w.in-None.ensures _ w.of-front.ensures
          (ap (λ (f : Front). f.size) w.of-front.ensures ∙ with-size no_front c.item-item.result)))
    ]

pub returns-else-front-eq0 : goal.returns-else-front-eq0
returns-else-front-eq0 c =
    let some = c.to.invariant.some_lane in
    let lanes = ap (λ (p : Parameters). p.lanes) c.to.view_is in
    let most : length c.args.items.now ≤ c.items.item-index = c.items-test.false in
    counted-last c.args.to.now c.args.items.now c.items.count c.items.front c.items.item-index c.items.invariant (omega (arith, some, lanes)) most c.items.auto.item-index-end c.if-front-eq0.false
