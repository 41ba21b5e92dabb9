use Rattle.tydi_base.proofs.BinaryLemmas.{binary_read, binary_spelled}
use Rattle.tydi_base.proofs.binary.binary_is_read_as_spelled.Goals as goal

pub returns-clause-spelled : goal.returns-clause-spelled
returns-clause-spelled c = binary_spelled

pub returns-clause-read : goal.returns-clause-read
returns-clause-read c = binary_read
