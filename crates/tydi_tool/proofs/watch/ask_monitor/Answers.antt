use Rattle.tydi_io.specs.Faults.{Rose}
use Rattle.tydi_tool.proofs.WatchLemmas.{asked-monitor}
use Rattle.tydi_tool.proofs.watch.ask_monitor.Goals as goal

pub returns-clause-well : goal.returns-clause-well
returns-clause-well g c =
    asked-monitor c.monitors_are_read_as_printed.ensures.read c.tables_are_shorter_than_their_text.ensures
    (g.S.Store.files c.args.store.now) c.args.monitor.now (g.S.Store.started c.args.store.now) (g.S.Store.started c.ask_text.new.store)
    (Rose (g.S.Store.faults c.args.store.now) (g.S.Store.faults c.ask_text.new.store)) c.ask_text.result c.ask_text.ensures.asked
