use Rattle.std.proofs.Common.{subst}
use Rattle.watch_text.specs.Statements.{PlainWatch}
use Rattle.trace_watch.specs.Texts.{IsWatchedTrace, watch_of_watcher}
use Rattle.trace_watch.proofs.TextLemmas.{misspelled, spelled}
use Rattle.trace_watch.proofs.text_watcher.TextWatcher.finish.Goals as goal

pub finish-requires-in-Ok : goal.finish-requires-in-Ok
finish-requires-in-Ok c = let read = c.in-Ok.ensures.finishes c.requires.0 c.requires.1 in (read.0, read.1.1)

pub returns-in-Ok : goal.returns-in-Ok
returns-in-Ok c bytes fed =
    let read = c.in-Ok.ensures.finishes bytes fed in
    spelled (watch_of_watcher c.args.self) bytes read.0 _ read.1.0
    (subst (λ (watch : PlainWatch). IsWatchedTrace watch read.0 c.finish-in-Ok.result) c.in-Ok.ensures.setting (c.finish-in-Ok.ensures read.0 read.1.1))

pub returns-in-Err : goal.returns-in-Err
returns-in-Err c bytes fed = misspelled (watch_of_watcher c.args.self) bytes c.in-Err.fault (c.in-Err.ensures.finishes bytes fed)
