use Rattle.std.proofs.Common.{◌∙◌, sym}
use Rattle.link_check.specs.Linked.{instance_linked}
use Rattle.link_check.specs.Wirings.{streamlets_lent}
use Rattle.link_check.proofs.LinkedLemmas.{all-step, all-fails, instance-linked}
use Rattle.link_check.proofs.wiring.Wiring.instances_linked.Goals as goal

pub returns-then-not-have_all : goal.returns-then-not-have_all
returns-then-not-have_all c = λ links sees.
    all-fails (instance_linked (streamlets_lent c.args.self.now) links) c.args.self.now.instances.now c.instances.one-index c.one-item.result _ c.instances-test.true c.one-item.is
    (sym (c.have_all.ensures links sees ∙ instance-linked c.args.self.now.streamlets.now links c.one-item.result _ c.ports_at.ensures) ∙ c.if-not-have_all.true)
    (c.instances.invariant links sees)

pub instances-preserved : goal.instances-preserved
instances-preserved c = λ links sees.
    all-step (instance_linked (streamlets_lent c.args.self.now) links) c.args.self.now.instances.now c.instances.one-index c.one-item.result _ c.instances-test.true c.one-item.is
    (sym (c.have_all.ensures links sees ∙ instance-linked c.args.self.now.streamlets.now links c.one-item.result _ c.ports_at.ensures) ∙ c.if-not-have_all.false)
    (c.instances.invariant links sees)
