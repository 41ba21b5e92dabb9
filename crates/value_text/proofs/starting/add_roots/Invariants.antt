use Rattle.std.proofs.Common.{◌≡◌, ◌++◌, drop, map}
use Rattle.type_split.specs.Streams.{node_view}
use Rattle.logical_value.specs.Tree.{plain}
use Rattle.value_text.specs.Canonical.{roots_text}
use Rattle.value_text.specs.Items.{items_of}
use Rattle.value_text.specs.Pending.{lines_text}
use Rattle.value_text.proofs.starting.add_roots.Given as goal

-- the lines that are added, and those of the roots that are left, are all
abbrev pub invariant-roots : goal.invariant-roots
invariant-roots l = lines_text l.lines ++ roots_text (map node_view l.split.nodes) (drop l.root-index l.root-items) (map (map plain) (items_of l.left))
    ≡ lines_text l.initial.lines ++ roots_text (map node_view l.split.nodes) l.split.roots (map (map plain) (items_of l.initial.left))
