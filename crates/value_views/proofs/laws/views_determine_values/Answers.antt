use Rattle.value_views.proofs.JoinLemmas.{views-determine-values}
use Rattle.value_views.proofs.laws.views_determine_values.Goals as goal

pub returns : goal.returns
returns c = views-determine-values
