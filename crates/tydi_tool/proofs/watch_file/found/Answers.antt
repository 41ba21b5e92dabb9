use Rattle.std.proofs.Common.{subst}
use Rattle.trace_watch.specs.Texts.{IsWatchedText}
use Rattle.tydi_tool.proofs.WatchLemmas.{found-streams}
use Rattle.tydi_tool.proofs.watch_file.found.Goals as goal

pub returns-in-Ok : goal.returns-in-Ok
returns-in-Ok c = λ watch bytes has. found-streams watch c.args.word.now bytes c.in-Ok.watched (subst (IsWatchedText watch bytes) c.in-Ok.is has)

pub returns-in-Err : goal.returns-in-Err
returns-in-Err c = λ watch bytes has. c.found_none.ensures watch bytes (subst (IsWatchedText watch bytes) c.in-Err.is has)
