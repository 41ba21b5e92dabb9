use Rattle.std.proofs.Common.{◌∙◌, sym, arith}
use Rattle.cycle_trace.specs.Spelling.{transfer_words}
use Rattle.cycle_trace.proofs.TextLengthLemmas.{length-or_dash}
use Rattle.cycle_trace.proofs.writing.lengths.payload_length.Goals as goal

pub returns-then-signals-eq0-clause-bytes : goal.returns-then-signals-eq0-clause-bytes
returns-then-signals-eq0-clause-bytes c = sym ((length-or_dash (transfer_words c.args.params.now c.args.transfer.now)).0 (sym c.signals_length-signals.ensures.bytes ∙ c.if-signals-eq0.true))

pub returns-else-signals-eq0-clause-bytes : goal.returns-else-signals-eq0-clause-bytes
returns-else-signals-eq0-clause-bytes c =
    c.signals_length-signals.ensures.bytes ∙ sym ((length-or_dash (transfer_words c.args.params.now c.args.transfer.now)).1 (omega (arith, c.signals_length-signals.ensures.bytes, c.if-signals-eq0.false)))
