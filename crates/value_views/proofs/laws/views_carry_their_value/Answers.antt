use Rattle.value_views.proofs.LawLemmas.{views-carry}
use Rattle.value_views.proofs.laws.views_carry_their_value.Goals as goal

pub returns : goal.returns
returns c = views-carry
