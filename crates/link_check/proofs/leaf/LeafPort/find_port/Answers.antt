use Rattle.link_check.proofs.NamedLemmas.{port-at-found}
use Rattle.link_check.proofs.leaf.LeafPort.find_port.Goals as goal

pub returns-in-Some : goal.returns-in-Some
returns-in-Some c =
    port-at-found c.args.project.now.streamlets c.as_slice-streamlets.result.now c.args.self.now c.as_slice.result.now c.streamlet_under.result
    c.in-Some.number c.ports_in.result.now c.named_port.result
    c.as_slice-streamlets.ensures c.as_slice.ensures c.streamlet_under.ensures c.in-Some.is c.ports_in.ensures c.named_port.ensures
