use Rattle.value_text.proofs.FitLemmas.{read_series_fit, read_values_fit}
use Rattle.value_text.proofs.laws.values_that_are_read_fit.Goals as goal

pub returns : goal.returns
returns c = record { tokens = read_series_fit; texts = read_values_fit }
