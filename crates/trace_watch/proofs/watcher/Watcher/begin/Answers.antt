use Rattle.std.proofs.Common.{◌∙◌, sym}
use Rattle.trace_watch.specs.Standing.{watch_in}
use Rattle.trace_watch.proofs.RunLemmas.{nothing_taken, runs-begun}
use Rattle.trace_watch.proofs.watcher.Watcher.begin.Goals as goal

pub returns-in-None-clause-begun : goal.returns-in-None-clause-begun
returns-in-None-clause-begun c =
    runs-begun (watch_in c.args.self.now) c.args.header.now c.args.self.now.run c.requires.header (sym c.as_slice.ensures ∙ c.in-None.ensures ∙ c.as_slice-2.ensures)
    (nothing_taken (watch_in c.args.self.now) c.args.self.now.run c.args.self.now.stage c.requires.fresh)
