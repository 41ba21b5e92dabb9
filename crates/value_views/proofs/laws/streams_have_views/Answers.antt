use Rattle.value_views.proofs.LawLemmas.{streams-have-views}
use Rattle.value_views.proofs.laws.streams_have_views.Goals as goal

pub returns : goal.returns
returns c = streams-have-views
