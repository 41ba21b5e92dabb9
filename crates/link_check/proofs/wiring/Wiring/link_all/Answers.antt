use Rattle.link_check.proofs.LinkedLemmas.{judged-err, linked-fault, linked-more}
use Rattle.link_check.proofs.wiring.Wiring.link_all.Goals as goal

pub returns-in_err-link_one : goal.returns-in_err-link_one
returns-in_err-link_one c =
    judged-err _ _ c.from_residual.result c.in_err-link_one.field-0.0 c.from_residual.ensures.1
    (linked-fault _ _ c.args.links.now c.links.link-index c.link-item.result _ _ c.in_err-link_one.field-0.0 c.links-test.true c.link-item.is c.links.invariant
    (c.in_err-link_one.ensures _ c.links.invariant.seen))

pub links-preserved : goal.links-preserved
links-preserved c =
    let one = c.in_ok-link_one.ensures _ c.links.invariant.seen in
    linked-more _ _ c.args.links.now c.links.link-index c.link-item.result _ _ _ _ c.links-test.true c.link-item.is c.links.invariant one.0 one.1
