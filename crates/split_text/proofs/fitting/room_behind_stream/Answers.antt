use Rattle.std.proofs.Common.{◌∙◌, ◌++◌, List, ℕ, ap, map, slice_get}
use Rattle.std.specs.List.{flat_map}
use Rattle.type_split.specs.Streams.{node_view}
use Rattle.split_text.specs.Text.{field_line, field_lines, heading_text}
use Rattle.split_text.proofs.TextLemmas.{no-room-behind-stream, room-behind-stream}
use Rattle.split_text.proofs.fitting.room_behind_stream.Goals as goal

pub returns-in_ok-fields-in-Some : goal.returns-in_ok-fields-in-Some
returns-in_ok-fields-in-Some c =
    let nodes = map node_view c.args.nodes.now in
    let heading = heading_text nodes c.args.one.now in
    room-behind-stream c.args.room c.in-Some.left heading (flat_map field_line c.as_slice.result.now) c.write_heading.new.text
    (field_lines (slice_get nodes c.args.one.now.node)) c.room_behind_fields.result
    (c.in_ok-write_heading.ensures ∙ ap (λ (l : List ℕ). l ++ heading) c.truncate.ensures) c.in-Some.ensures
    (ap (flat_map field_line) c.as_slice.ensures ∙ c.in_ok-fields-in-Some.ensures) c.room_behind_fields.ensures

pub returns-in-None : goal.returns-in-None
returns-in-None c =
    let nodes = map node_view c.args.nodes.now in
    let heading = heading_text nodes c.args.one.now in
    no-room-behind-stream c.args.room heading c.write_heading.new.text (field_lines (slice_get nodes c.args.one.now.node))
    (c.in_ok-write_heading.ensures ∙ ap (λ (l : List ℕ). l ++ heading) c.truncate.ensures) c.in-None.ensures
