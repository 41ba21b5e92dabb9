use Rattle.port_reshape.proofs.ShapeLemmas.{rates_leave_values}
use Rattle.port_reshape.proofs.laws.rates_leave_values.Goals as goal

pub returns : goal.returns
returns c = rates_leave_values
