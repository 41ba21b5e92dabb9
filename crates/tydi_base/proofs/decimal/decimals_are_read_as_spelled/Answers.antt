use Rattle.tydi_base.proofs.DecimalLaws.{decimals_read, decimals_spelled, padded_read, padded_spelled}
use Rattle.tydi_base.proofs.decimal.decimals_are_read_as_spelled.Goals as goal

pub returns-clause-spelled : goal.returns-clause-spelled
returns-clause-spelled c = decimals_spelled

pub returns-clause-read : goal.returns-clause-read
returns-clause-read c = decimals_read

pub returns-clause-padded : goal.returns-clause-padded
returns-clause-padded c = padded_spelled

pub returns-clause-padded_read : goal.returns-clause-padded_read
returns-clause-padded_read c = padded_read
