use Rattle.watch_text.specs.Statements.{PlainWatch, plain_watch}
use Rattle.tydi_io.specs.Faults.{Rose}
use Rattle.tydi_tool.specs.Commands.{watched_ask}
use Rattle.tydi_tool.specs.Watches.{ReadsWatch}
use Rattle.tydi_tool.specs.Words.{monitor_file}
use Rattle.tydi_tool.proofs.AskLemmas.{DecidedBy-asked, DecidedBy-rest}
use Rattle.tydi_tool.proofs.watch.watch.Goals as goal

pub returns-in-Ok : goal.returns-in-Ok
returns-in-Ok g c = record {
  decided = DecidedBy-rest (monitor_file c.args.monitor.now) PlainWatch (ReadsWatch c.args.monitor.now) (watched_ask c.args.trace.now) _ _
      (g.S.Store.started c.args.store.now) _ _ _ _ _ _ (plain_watch c.in-Ok.read) c.watch_trace.result
      c.in-Ok.ensures.files c.in-Ok.ensures.later c.in-Ok.ensures.asked c.watch_trace.ensures.decided;
}

pub returns-in-Err : goal.returns-in-Err
returns-in-Err g c = record {
  decided = DecidedBy-asked (monitor_file c.args.monitor.now) PlainWatch (ReadsWatch c.args.monitor.now) (watched_ask c.args.trace.now)
      (g.S.Store.files c.args.store.now) (g.S.Store.started c.args.store.now) (g.S.Store.started c.ask_monitor.new.store)
      (Rose (g.S.Store.faults c.args.store.now) (g.S.Store.faults c.ask_monitor.new.store)) c.in-Err.reply c.in-Err.ensures.asked;
}
