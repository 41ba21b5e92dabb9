use Rattle.nest_shape.proofs.LawLemmas.{one_series}
use Rattle.nest_shape.proofs.laws.series_have_one_flat_form.Goals as goal

pub returns : goal.returns
returns c = one_series
