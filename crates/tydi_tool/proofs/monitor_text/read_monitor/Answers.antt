use Rattle.watch_text.specs.Statements.{plain_watch}
use Rattle.tydi_tool.proofs.WatchLemmas.{ReadsWatch-read, ReadsWatch-refused}
use Rattle.tydi_tool.proofs.monitor_text.read_monitor.Goals as goal

pub returns-in-Ok : goal.returns-in-Ok
returns-in-Ok c = ReadsWatch-read c.args.word.now c.args.bytes.now (plain_watch c.in-Ok.watch) c.in-Ok.ensures

pub returns-in-Err : goal.returns-in-Err
returns-in-Err c = ReadsWatch-refused c.args.word.now c.args.bytes.now c.in-Err.fault c.no_monitor.result c.in-Err.ensures c.no_monitor.ensures
