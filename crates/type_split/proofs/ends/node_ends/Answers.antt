use Rattle.std.proofs.Common.{List, map, drop, ap, ◌∙◌}
use Rattle.type_split.specs.declared.split.Node.{Node}
use Rattle.type_split.specs.Streams.{node_view, plain_split}
use Rattle.type_split.proofs.EndLemmas.{ends-whole, first_node}
use Rattle.type_split.proofs.ends.node_ends.Goals as goal

pub returns : goal.returns
returns c =
    let nodes = c.as_slice.result.now in
    c.from_vec.ensures
    ∙ ends-whole (plain_split c.args.split.now) (node_view c.outermost-item.result) (map node_view (drop 1 nodes)) c.new-ends.result.items c.add_node.new.ends.items c.requires
    (first_node nodes c.outermost-item.result c.in-len1-up.len_at_least c.outermost-item.is ∙ ap (λ (l : List Node). map node_view l) c.as_slice.ensures) c.new-ends.ensures.items
    c.in_ok-add_node.ensures
