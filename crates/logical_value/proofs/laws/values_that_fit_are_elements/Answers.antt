use Rattle.logical_value.proofs.FitLemmas.{fits_are_elements}
use Rattle.logical_value.proofs.laws.values_that_fit_are_elements.Goals as goal

pub returns : goal.returns
returns c = fits_are_elements
