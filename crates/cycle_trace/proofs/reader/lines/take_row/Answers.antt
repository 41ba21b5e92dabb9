use Rattle.std.proofs.Common.{Ok}
use Rattle.cycle_trace.proofs.ReaderLemmas.{after_row-line}
use Rattle.cycle_trace.proofs.reader.lines.take_row.Goals as goal

pub returns-in_default-clause-stands : goal.returns-in_default-clause-stands
returns-in_default-clause-stands g c t bytes stands h goes =
    after_row-line g.K.RowSink.stands_for c.after_row.new.sink _ bytes (Ok c.in_default.field-0) c.requires.rows (c.in_default.ensures.stands t bytes stands h goes)
