use Rattle.std.proofs.Common.{◌∙◌, ◌++◌, List, ap, map}
use Rattle.type_split.specs.Streams.{node_view}
use Rattle.type_split.specs.declared.split.Phys.{Phys}
use Rattle.logical_value.specs.Tree.{plain}
use Rattle.value_text.specs.Canonical.{roots_text, users_text}
use Rattle.value_text.specs.Items.{items_of}
use Rattle.value_text.specs.Pending.{lines_text}
use Rattle.value_text.specs.declared.pending.Pending.{Pending}
use Rattle.value_text.proofs.LineLemmas.{turned}
use Rattle.value_text.proofs.starting.start.Goals as goal

pub returns : goal.returns
returns c =
    let roots = roots_text (map node_view c.args.split.now.nodes) c.args.split.now.roots (map (map plain) (items_of c.args.series)) in
    turned c.add_users.new.lines c.reversed.result roots (users_text c.args.split.now.streams (items_of c.args.users)) (lines_text c.add_roots.new.lines) c.reversed.ensures
    (c.in_ok-add_roots.ensures ∙ ap (λ (l : List Pending). lines_text l ++ roots) c.new-lines.ensures)
    (c.in_ok-add_users.ensures ∙ ap (λ (streams : List Phys). lines_text c.add_roots.new.lines ++ users_text streams (items_of c.args.users)) c.as_slice.ensures)
