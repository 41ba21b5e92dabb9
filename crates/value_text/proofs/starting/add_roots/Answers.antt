use Rattle.std.proofs.Common.{map}
use Rattle.type_split.specs.Streams.{node_view}
use Rattle.value_text.specs.Items.{item_of, items_of}
use Rattle.value_text.specs.Pending.{lines_text}
use Rattle.value_text.proofs.LineLemmas.{roots-few, roots-past, roots-step}
use Rattle.value_text.proofs.starting.add_roots.Goals as goal

pub roots-preserved : goal.roots-preserved
roots-preserved c =
    roots-step (map node_view c.args.split.now.nodes) c.as_slice-root-items.result.now c.roots.root-index (items_of c.roots.left) (items_of c.in-Some.field-0.more) (item_of c.in-Some.field-0.one)
    (items_of c.elements.result) (lines_text c.roots.lines) (lines_text c.add_root.new.lines) _ c.roots-test.true c.in-Some.ensures c.elements.ensures c.in_ok-add_root-in-Some.ensures c.roots.invariant

pub returns-in-None : goal.returns-in-None
returns-in-None c =
    roots-few (map node_view c.args.split.now.nodes) c.as_slice-root-items.result.now c.roots.root-index (items_of c.roots.left) (lines_text c.roots.lines) _ c.in-None.ensures c.roots.invariant

pub returns : goal.returns
returns c =
    roots-past (map node_view c.args.split.now.nodes) c.as_slice-root-items.result.now c.roots.root-index (items_of c.roots.left) (lines_text c.roots.lines) _ c.roots-test.false c.roots.invariant
