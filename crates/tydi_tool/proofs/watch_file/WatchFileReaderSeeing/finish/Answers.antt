use Rattle.trace_watch.specs.Texts.{watch_of_watcher}
use Rattle.tydi_tool.proofs.WatchLemmas.{watched-at_end}
use Rattle.tydi_tool.proofs.watch_file.WatchFileReaderSeeing.finish.Goals as goal

pub returns : goal.returns
returns c = watched-at_end c.args.self c.found.result c.requires.stands
    (λ bytes fed. c.found.ensures (watch_of_watcher c.args.self.watcher) bytes (c.finish.ensures bytes fed))
