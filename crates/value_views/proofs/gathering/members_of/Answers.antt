use Rattle.logical_value.specs.Tree.{plain}
use Rattle.value_views.proofs.GatherLemmas.{members-plain}
use Rattle.value_views.proofs.gathering.members_of.Goals as goal

pub returns-in-Some : goal.returns-in-Some
returns-in-Some c = members-plain (plain c.args.value.now) c.in-Some.members.now c.in-Some.ensures
