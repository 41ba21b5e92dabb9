use Rattle.value_views.proofs.JoinLemmas.{agreeing-views-have_values}
use Rattle.value_views.proofs.laws.agreeing_views_have_values.Goals as goal

pub returns : goal.returns
returns c = agreeing-views-have_values
