use Rattle.trace_watch.specs.Texts.{Watching}
use Rattle.watch_text.specs.Statements.{plain_watch}
use Rattle.tydi_io.specs.Faults.{Rose}
use Rattle.tydi_tool.specs.Ask.{Ends}
use Rattle.tydi_tool.specs.Watches.{ReadsWatching, TellsWatching}
use Rattle.tydi_tool.specs.Words.{trace_file}
use Rattle.tydi_tool.proofs.AskLemmas.{Decides-wanted}
use Rattle.tydi_tool.proofs.watch.watch_trace.Goals as goal

pub returns-in-Err : goal.returns-in-Err
returns-in-Err g c =
    let watch = plain_watch c.args.watch.now in
    record {
      decided = Decides-wanted (trace_file c.args.trace.now) Watching (ReadsWatching watch c.args.trace.now) (λ found. Ends (TellsWatching watch c.args.trace.now found))
          (g.S.Store.files c.args.store.now) (g.S.Store.started c.args.store.now) (Rose (g.S.Store.faults c.args.store.now) (g.S.Store.faults c.args.store.now));
    }
