use Rattle.physical_stream.proofs.HeadSpelling.{header_number-gives, header_number-below}
use Rattle.physical_stream.proofs.stream_line.header_number.Goals as goal

pub returns-clause-exact : goal.returns-clause-exact
returns-clause-exact c = header_number-gives c.args.digits.now c.read_decimal.result c.ok_or.result _ c.if-digits-gt10.false c.read_decimal.ensures c.ok_or.ensures.value

pub returns-clause-below : goal.returns-clause-below
returns-clause-below c = header_number-below c.args.digits.now c.read_decimal.result c.ok_or.result _ c.if-digits-gt10.false c.read_decimal.ensures c.ok_or.ensures.value
