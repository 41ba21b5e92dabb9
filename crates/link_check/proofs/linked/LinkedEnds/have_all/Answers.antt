use Rattle.std.proofs.Common.{sym, ◌∙◌}
use Rattle.til_resolve.specs.declared.project.Port.{Port}
use Rattle.link_check.specs.Linked.{end_named}
use Rattle.link_check.specs.Links.{is_linked}
use Rattle.link_check.proofs.LinkedLemmas.{all-step, all-none}
use Rattle.link_check.proofs.linked.LinkedEnds.have_all.Goals as goal

pub ports-preserved : goal.ports-preserved
ports-preserved c = λ links sees.
    all-step (λ (port : Port). is_linked links (end_named c.args.instance port.name)) c.args.ports.now c.ports.port-index c.port-item.result _ c.ports-test.true c.port-item.is
    (sym (c.has_named.ensures links sees) ∙ c.if-not-has_named.false) (c.ports.invariant links sees)

pub returns : goal.returns
returns c = λ links sees.
    all-none (λ (port : Port). is_linked links (end_named c.args.instance port.name)) c.args.ports.now c.ports.port-index _ c.ports-test.false (c.ports.invariant links sees)
