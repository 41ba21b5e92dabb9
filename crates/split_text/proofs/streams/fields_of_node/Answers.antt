use Rattle.std.proofs.Common.{Option, sym, ap, ◌∙◌}
use Rattle.std.specs.List.{flat_map}
use Rattle.type_split.specs.Nodes.{StreamNode}
use Rattle.type_split.specs.Streams.{node_view}
use Rattle.split_text.specs.Fields.{fields_of}
use Rattle.split_text.specs.Text.{field_line, field_lines}
use Rattle.split_text.proofs.TextLemmas.{fields-of-node, no-node, plain-node, some-node}
use Rattle.split_text.proofs.streams.fields_of_node.Goals as goal

pub fields_of-requires : goal.fields_of-requires
fields_of-requires c = plain-node _ c.args.nodes.now c.args.number c.in-Some.node.now c.requires c.in-Some.ensures.lookup.0 c.in-Some.ensures.lookup.1

pub returns-in-Some : goal.returns-in-Some
returns-in-Some c =
    fields-of-node c.fields_of.result (fields_of (node_view c.in-Some.node.now).element) _ c.fields_of.ensures
    (ap (λ (o : Option StreamNode). field_lines o)
    (sym (some-node _ c.args.nodes.now c.args.number c.in-Some.node.now c.in-Some.ensures.lookup.0 c.in-Some.ensures.lookup.1)))

pub returns-in-None : goal.returns-in-None
returns-in-None c = ap (flat_map field_line) c.new.ensures ∙ no-node c.args.nodes.now c.args.number c.in-None.ensures.lookup.0
