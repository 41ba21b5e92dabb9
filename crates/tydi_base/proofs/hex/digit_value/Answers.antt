use Rattle.tydi_base.proofs.DigitTable.{digit_none, digit_some}
use Rattle.tydi_base.proofs.hex.digit_value.Goals as goal

pub returns-then-value-lt16-clause-value : goal.returns-then-value-lt16-clause-value
returns-then-value-lt16-clause-value c = digit_some c.args.byte c.from.result c.from.ensures c.ranges.byte.fits c.if-value-lt16.true

pub returns-else-value-lt16-clause-value : goal.returns-else-value-lt16-clause-value
returns-else-value-lt16-clause-value c = digit_none c.args.byte c.from.result c.from.ensures c.ranges.byte.fits c.if-value-lt16.false
