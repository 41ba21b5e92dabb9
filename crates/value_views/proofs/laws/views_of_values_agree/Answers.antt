use Rattle.value_views.proofs.JoinLemmas.{views-of_values-agree}
use Rattle.value_views.proofs.laws.views_of_values_agree.Goals as goal

pub returns : goal.returns
returns c = views-of_values-agree
