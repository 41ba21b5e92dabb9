use Rattle.std.proofs.lemmas.Result.{on_ok_weaker}
use Rattle.logical_types.specs.Tree.{group, plain_parts}
use Rattle.logical_value.specs.Tree as values
use Rattle.logical_value.specs.Tree.{plain, plain_values}
use Rattle.value_text.specs.Canonical.{element_text}
use Rattle.value_text.specs.Inside.{tree_of}
use Rattle.value_text.specs.Items.{item_of, items_of}
use Rattle.value_text.proofs.PendingLemmas.{begun-same, no-group, nothing-begun}
use Rattle.value_text.proofs.beginning.begin_group.Goals as goal

pub returns-in-Group : goal.returns-in-Group
returns-in-Group c = on_ok_weaker c.begin_fields.result
    (begun-same (element_text (group (plain_parts c.args.parts.now))) (values.group (plain_values (items_of c.in-Group.fields))) (plain (item_of c.args.value))
    c.args.left.now c.begin_fields.new.left c.args.out.now c.begin_fields.new.out c.in-Group.ensures) c.begin_fields.ensures

pub returns : goal.returns
returns c =
    nothing-begun (element_text (group (plain_parts c.args.parts.now))) (tree_of c.look_inside.result) (plain (item_of c.args.value)) c.args.left.now c.args.out.now c.look_inside.ensures
    (no-group (plain_parts c.args.parts.now) c.look_inside.result c.in_default.not-Group)
