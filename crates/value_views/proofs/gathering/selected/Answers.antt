use Rattle.logical_value.specs.Tree.{plain}
use Rattle.value_views.proofs.GatherLemmas.{part_of-selected, part_of-not_selected}
use Rattle.value_views.proofs.gathering.selected.Goals as goal

pub returns-then-one-number : goal.returns-then-one-number
returns-then-one-number c = part_of-selected c.args.number c.in-Some.one.tag (plain c.args.value.now) (plain c.in-Some.one.part.now) c.in-Some.ensures c.if-one-number.true

pub returns-else-one-number : goal.returns-else-one-number
returns-else-one-number c = part_of-not_selected c.args.number c.in-Some.one.tag (plain c.args.value.now) (plain c.in-Some.one.part.now) c.in-Some.ensures c.if-one-number.false
