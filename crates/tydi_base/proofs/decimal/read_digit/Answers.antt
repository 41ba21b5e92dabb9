use Rattle.std.proofs.Common.{rules}
use Rattle.tydi_base.proofs.DecimalLaws.{one_digit-some}
use Rattle.tydi_base.proofs.decimal.read_digit.Goals as goal

pub returns : goal.returns
returns c = rw c.from.ensures (one_digit-some c.args.digit (search rules))
