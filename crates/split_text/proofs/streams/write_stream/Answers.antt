use Rattle.std.proofs.Common.{◌≡◌, ◌++◌, List, ℕ, OnOk, map, slice_get, ap, append_assoc, subst, ◌∙◌}
use Rattle.type_split.specs.Streams.{node_view}
use Rattle.split_text.specs.Text.{field_lines, heading_text}
use Rattle.split_text.proofs.streams.write_stream.Goals as goal

pub returns : goal.returns
returns c =
    let nodes = map node_view c.args.nodes.now in
    let fields = field_lines (slice_get nodes c.args.one.now.node) in
    subst (λ (l : List ℕ). OnOk c.write_fields.result (c.write_fields.new.text ≡ l))
    (ap (λ (l : List ℕ). l ++ fields) c.in_ok-write_heading.ensures ∙ append_assoc c.args.text.now (heading_text nodes c.args.one.now) fields)
    c.write_fields.ensures
