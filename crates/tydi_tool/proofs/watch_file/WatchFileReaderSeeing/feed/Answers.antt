use Rattle.std.proofs.Common.{List, ℕ, ◌++◌, append_assoc, subst}
use Rattle.trace_watch.specs.Texts.{watch_of_watcher}
use Rattle.watch_text.specs.Statements.{PlainWatch}
use Rattle.tydi_tool.specs.Reading.{Seen}
use Rattle.tydi_tool.specs.Watches.{ReadsWatching, watching_in}
use Rattle.tydi_tool.proofs.TraceFileLemmas.{on_ok_any}
use Rattle.tydi_tool.proofs.watch_file.WatchFileReaderSeeing.feed.Goals as goal

pub returns-clause-stands : goal.returns-clause-stands
returns-clause-stands c = on_ok_any c.feed.result _ (c.requires.stands.0 ++ c.args.piece.now, c.feed.ensures.fed c.requires.stands.0 c.requires.stands.1)

pub returns-clause-reads : goal.returns-clause-reads
returns-clause-reads c = on_ok_any c.feed.result _ (λ rest read reads bytes fed.
    subst (λ (w : PlainWatch). Seen watching_in (ReadsWatching w c.args.self.now.word.now (bytes ++ (c.args.piece.now ++ rest))) read) c.feed.ensures.watch
    (subst (λ (l : List ℕ). Seen watching_in (ReadsWatching (watch_of_watcher c.feed.new.self) c.args.self.now.word.now l) read) (append_assoc bytes c.args.piece.now rest)
    (reads (bytes ++ c.args.piece.now) (c.feed.ensures.fed bytes fed))))
