use Rattle.cycle_trace.specs.Trace.{TraceText}
use Rattle.tydi_io.specs.Faults.{Rose}
use Rattle.tydi_tool.specs.Arrivals.{ReadsCycles, TellsArrived}
use Rattle.tydi_tool.specs.Ask.{Ends}
use Rattle.tydi_tool.specs.Words.{trace_file}
use Rattle.tydi_tool.proofs.ArrivalLemmas.{asked-arrival, asked-refused}
use Rattle.tydi_tool.proofs.AskLemmas.{DecidedBy-asked, DecidedBy-last}
use Rattle.tydi_tool.proofs.carry.carry_with.Goals as goal

pub returns-in-Ok : goal.returns-in-Ok
returns-in-Ok g c = record {
  decided = λ heads is.
      let asked = asked-arrival c.args.trace.now heads c.args.file (g.S.Store.files c.args.store.now) (trace_file c.args.trace.now) (g.S.Store.started c.args.store.now)
      (g.S.Store.started c.ask.new.store) (Rose (g.S.Store.faults c.args.store.now) (g.S.Store.faults c.ask.new.store)) c.in-Ok.arrival is c.in-Ok.ensures.asked in
      DecidedBy-last (trace_file c.args.trace.now) TraceText (ReadsCycles c.args.trace.now) (TellsArrived c.args.trace.now heads) _ (g.S.Store.started c.args.store.now) _ _ _
      asked.0 c.told.result asked.1.1 (c.told.ensures heads asked.0 asked.1.0);
}

pub returns-in-Err : goal.returns-in-Err
returns-in-Err g c = record {
  decided = λ heads is.
      DecidedBy-asked (trace_file c.args.trace.now) TraceText (ReadsCycles c.args.trace.now) (λ t. Ends (TellsArrived c.args.trace.now heads t))
      (g.S.Store.files c.args.store.now) (g.S.Store.started c.args.store.now) (g.S.Store.started c.ask.new.store)
      (Rose (g.S.Store.faults c.args.store.now) (g.S.Store.faults c.ask.new.store)) c.in-Err.reply
      (asked-refused c.args.trace.now heads c.args.file (g.S.Store.files c.args.store.now) (trace_file c.args.trace.now) (g.S.Store.started c.args.store.now)
      (g.S.Store.started c.ask.new.store) (Rose (g.S.Store.faults c.args.store.now) (g.S.Store.faults c.ask.new.store)) c.in-Err.reply is c.in-Err.ensures.asked);
}
