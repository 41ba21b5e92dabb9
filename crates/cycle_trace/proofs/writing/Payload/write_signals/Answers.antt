use Rattle.cycle_trace.proofs.WritingLemmas.{signals_written}
use Rattle.cycle_trace.proofs.writing.Payload.write_signals.Goals as goal

pub returns-clause-ok : goal.returns-clause-ok
returns-clause-ok c =
    rw (signals_written c.of-widths.result c.args.self.now.params.now c.args.self.now.transfer.now c.args.self.now.strb.now c.of-widths.ensures) c.emit.ensures.ok
