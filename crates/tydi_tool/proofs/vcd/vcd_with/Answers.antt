use Rattle.cycle_trace.specs.Trace.{TraceText}
use Rattle.port_drive.specs.Text.{written_text}
use Rattle.std.proofs.Common.{◌≡◌}
use Rattle.tydi_io.specs.Faults.{Rose}
use Rattle.tydi_tool.specs.Ask.{Ends}
use Rattle.tydi_tool.specs.Dumps.{ReadsDump}
use Rattle.tydi_tool.specs.Outcome.{output_answer}
use Rattle.tydi_tool.specs.Words.{dump_file}
use Rattle.tydi_tool.proofs.AskLemmas.{DecidedBy-asked, DecidedBy-last}
use Rattle.tydi_tool.proofs.DumpLemmas.{asked-dump, asked-refused, new-some}
use Rattle.tydi_tool.proofs.vcd.vcd_with.Goals as goal

pub ask-requires-clause-stands : goal.ask-requires-clause-stands
ask-requires-clause-stands g c = new-some c.requires.new.0 c.args.file.now c.requires.new.1.0 c.args.reader c.requires.new.1.1

pub returns-in-Ok : goal.returns-in-Ok
returns-in-Ok g c = record {
  decided = λ scope split is.
      let asked = asked-dump scope c.args.file.now split c.args.reader (g.S.Store.files c.args.store.now) (dump_file c.args.file.now)
      (g.S.Store.started c.args.store.now) (g.S.Store.started c.ask.new.store)
      (Rose (g.S.Store.faults c.args.store.now) (g.S.Store.faults c.ask.new.store)) c.in-Ok.kept is c.in-Ok.ensures.asked in
      DecidedBy-last (dump_file c.args.file.now) TraceText (ReadsDump scope c.args.file.now split) (λ t a. a ≡ output_answer (written_text t)) _
      (g.S.Store.started c.args.store.now) _ _ _ asked.0 c.told.result asked.1.1 (c.told.ensures asked.0 asked.1.0);
}

pub returns-in-Err : goal.returns-in-Err
returns-in-Err g c = record {
  decided = λ scope split is.
      DecidedBy-asked (dump_file c.args.file.now) TraceText (ReadsDump scope c.args.file.now split) (λ t. Ends (λ a. a ≡ output_answer (written_text t)))
      (g.S.Store.files c.args.store.now) (g.S.Store.started c.args.store.now) (g.S.Store.started c.ask.new.store)
      (Rose (g.S.Store.faults c.args.store.now) (g.S.Store.faults c.ask.new.store)) c.in-Err.reply
      (asked-refused scope c.args.file.now split c.args.reader (g.S.Store.files c.args.store.now) (dump_file c.args.file.now)
      (g.S.Store.started c.args.store.now) (g.S.Store.started c.ask.new.store)
      (Rose (g.S.Store.faults c.args.store.now) (g.S.Store.faults c.ask.new.store)) c.in-Err.reply is c.in-Err.ensures.asked);
}
