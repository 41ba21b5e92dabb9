use Rattle.logical_value.specs.Tree.{plain}
use Rattle.value_views.proofs.GatherLemmas.{part_of-field}
use Rattle.value_views.proofs.gathering.part_of.Goals as goal

pub returns-in-Some : goal.returns-in-Some
returns-in-Some c = part_of-field (plain c.args.value.now) c.in-Some.fields.now c.args.number c.get.result c.in-Some.ensures c.get.ensures.lookup.0 c.get.ensures.lookup.1
