use Rattle.std.proofs.Common.{map}
use Rattle.til_resolve.specs.PlainProject.{plain_streamlet}
use Rattle.link_check.specs.Bodies.{bodies_lent}
use Rattle.link_check.proofs.NamedLemmas.{ports_at-is}
use Rattle.link_check.proofs.OrderLemmas.{bodies-more}
use Rattle.link_check.proofs.order.all_bodies.Goals as goal

pub streamlets-preserved : goal.streamlets-preserved
streamlets-preserved c =
    let all = map plain_streamlet c.args.streamlets.now in
    let one = c.index-streamlets-number.result in
    bodies-more c.args.streamlets.now c.streamlets.number one (bodies_lent all c.streamlets.bodies) (bodies_lent all c.add_body.new.bodies) c.streamlets-test.true c.index-streamlets-number.is
    c.streamlets.invariant (c.in_ok-add_body.ensures all (ports_at-is c.args.streamlets.now c.streamlets.number one c.streamlets-test.true c.index-streamlets-number.is))
