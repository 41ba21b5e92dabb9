use Rattle.std.proofs.Common.{Err, subst}
use Rattle.trace_watch.specs.Texts.{IsWatchedText}
use Rattle.trace_watch.specs.declared.fault.WatchTraceFault.{WatchTraceFault}
use Rattle.tydi_tool.proofs.WatchLemmas.{found-header, found-misspelled}
use Rattle.tydi_tool.proofs.watch_file.found_none.Goals as goal

pub returns-in-Misspelled : goal.returns-in-Misspelled
returns-in-Misspelled c = λ watch bytes has.
    found-misspelled watch c.args.word.now bytes c.in-Misspelled.fault c.faulted.result
    (subst (λ (f : WatchTraceFault). IsWatchedText watch bytes (Err f)) c.in-Misspelled.is has) c.faulted.ensures

pub returns-in-OtherHeader : goal.returns-in-OtherHeader
returns-in-OtherHeader c = λ watch bytes has.
    found-header watch c.args.word.now bytes c.in-OtherHeader.place (subst (λ (f : WatchTraceFault). IsWatchedText watch bytes (Err f)) c.in-OtherHeader.is has)
