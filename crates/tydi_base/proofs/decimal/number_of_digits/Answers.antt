use Rattle.tydi_base.proofs.DecimalLaws.{as_below}
use Rattle.tydi_base.proofs.decimal.number_of_digits.Goals as goal

pub returns : goal.returns
returns c = as_below _ _ c.spelled_number.result c.spelled_number.ensures.some c.spelled_number.ensures.none
