use Rattle.value_views.proofs.FitsLemmas.{nodes-have-series}
use Rattle.value_views.proofs.laws.nodes_have_series.Goals as goal

pub returns : goal.returns
returns c = nodes-have-series
