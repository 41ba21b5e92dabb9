use Rattle.std.proofs.Common.{◌≡◌, ◌++◌, List, ℕ, OnOk, map, slice_get, refl, ap, subst, ◌∙◌}
use Rattle.physical_stream.specs.StreamLine.{head_text}
use Rattle.signal_layout.specs.Layout.{width_in, width_of}
use Rattle.type_split.specs.Streams.{node_view}
use Rattle.split_text.specs.Text.{head_of, root_line, signal_lines}
use Rattle.split_text.proofs.TextLemmas.{joined, signals-same}
use Rattle.split_text.proofs.streams.write_heading.Goals as goal

pub returns : goal.returns
returns c =
    let root = root_line (slice_get (map node_view c.args.nodes.now) c.args.one.now.root) in
    let lines = signal_lines (width_of c.args.one.now.params) in
    subst (λ (l : List ℕ). OnOk c.emit-2.result (c.emit-2.new.self ≡ l))
    (ap (λ (l : List ℕ). c.write_root.new.text ++ l) (signals-same (width_in c.of.result) (width_of c.args.one.now.params) c.of.ensures)
    ∙ joined c.args.text.now (head_text (head_of c.args.one.now)) root lines c.emit.new.self c.write_root.new.text (c.write_root.new.text ++ lines)
    c.in_ok-emit.ensures.ok c.in_ok-write_root.ensures refl)
    c.emit-2.ensures.ok
