use Rattle.std.proofs.Common.{Ok, Err}
use Rattle.trace_watch.specs.Texts.{Watching}
use Rattle.watch_text.specs.Statements.{plain_watch}
use Rattle.tydi_io.specs.Faults.{Rose}
use Rattle.tydi_tool.specs.Ask.{Ends}
use Rattle.tydi_tool.specs.Watches.{ReadsWatching, TellsWatching, watching_in}
use Rattle.tydi_tool.specs.Words.{trace_file}
use Rattle.tydi_tool.proofs.AskLemmas.{DecidedBy-asked, DecidedBy-last}
use Rattle.tydi_tool.proofs.WatchLemmas.{asked-watcher, each-read}
use Rattle.tydi_tool.proofs.watch.watch_with.Goals as goal

pub told-requires-clause-each : goal.told-requires-clause-each
told-requires-clause-each g c =
    let watch = plain_watch c.args.watch.now in
    let asked = asked-watcher watch c.args.trace.now c.args.reader (g.S.Store.files c.args.store.now) (trace_file c.args.trace.now) (g.S.Store.started c.args.store.now) (g.S.Store.started c.ask.new.store)
    (Rose (g.S.Store.faults c.args.store.now) (g.S.Store.faults c.ask.new.store)) (Ok c.in-Ok.found) c.requires.new c.in-Ok.ensures.asked in
    each-read watch c.requires.watch c.args.trace.now asked.0 (watching_in c.in-Ok.found) asked.1.1.0

pub returns-in-Ok : goal.returns-in-Ok
returns-in-Ok g c =
    let watch = plain_watch c.args.watch.now in
    record {
      decided = DecidedBy-last (trace_file c.args.trace.now) Watching (ReadsWatching watch c.args.trace.now) (TellsWatching watch c.args.trace.now) _ (g.S.Store.started c.args.store.now) _ _ _
          (watching_in c.in-Ok.found) c.told.result
          (asked-watcher watch c.args.trace.now c.args.reader (g.S.Store.files c.args.store.now) (trace_file c.args.trace.now) (g.S.Store.started c.args.store.now) (g.S.Store.started c.ask.new.store)
          (Rose (g.S.Store.faults c.args.store.now) (g.S.Store.faults c.ask.new.store)) (Ok c.in-Ok.found) c.requires.new c.in-Ok.ensures.asked) c.told.ensures;
    }

pub returns-in-Err : goal.returns-in-Err
returns-in-Err g c =
    let watch = plain_watch c.args.watch.now in
    record {
      decided = DecidedBy-asked (trace_file c.args.trace.now) Watching (ReadsWatching watch c.args.trace.now) (λ found. Ends (TellsWatching watch c.args.trace.now found))
          (g.S.Store.files c.args.store.now) (g.S.Store.started c.args.store.now) (g.S.Store.started c.ask.new.store)
          (Rose (g.S.Store.faults c.args.store.now) (g.S.Store.faults c.ask.new.store)) c.in-Err.reply
          (asked-watcher watch c.args.trace.now c.args.reader (g.S.Store.files c.args.store.now) (trace_file c.args.trace.now) (g.S.Store.started c.args.store.now) (g.S.Store.started c.ask.new.store)
          (Rose (g.S.Store.faults c.args.store.now) (g.S.Store.faults c.ask.new.store)) (Err c.in-Err.reply) c.requires.new c.in-Err.ensures.asked);
    }
