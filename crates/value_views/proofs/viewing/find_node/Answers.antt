use Rattle.value_views.proofs.NodeLemmas.{node-found}
use Rattle.value_views.proofs.viewing.find_node.Goals as goal

pub returns : goal.returns
returns c =
    node-found c.args.split.now c.args.number c.as_slice.result.now c.index-as_slice-0.result c.new-finding.result c.find_in_port.new.self c.requires.split c.requires.number
    c.as_slice.ensures c.new-finding.ensures.none c.new-finding.ensures.left c.new-finding.ensures.passed c.in_ok-find_in_port.ensures
