use Rattle.std.proofs.Common.{ap, sym, ◌∙◌}
use Rattle.logical_value.specs.Tree.{members, plain}
use Rattle.logical_value.proofs.PlainLemmas.{list_of-plain_values, plain-List}
use Rattle.value_views.proofs.filling.into_members.Goals as goal

pub returns-in-List : goal.returns-in-List
returns-in-List c = sym (ap (λ v. members (plain v)) c.in-List.is ∙ ap members (plain-List c.in-List.members) ∙ list_of-plain_values c.in-List.members)
