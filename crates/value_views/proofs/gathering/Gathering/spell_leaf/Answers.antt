use Rattle.logical_types.specs.Tree as types
use Rattle.logical_value.specs.Tree.{plain}
use Rattle.value_views.proofs.GatherLemmas.{leaf-element}
use Rattle.value_views.proofs.gathering.Gathering.spell_leaf.Goals as goal

pub pack-requires-clause-element : goal.pack-requires-clause-element
pack-requires-clause-element c = leaf-element (types.plain c.args.self.now.element.now) (plain c.args.value.now) c.requires
