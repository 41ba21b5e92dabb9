use Rattle.std.proofs.Common.{List, ℕ, ◌++◌, append_assoc, subst}
use Rattle.link_check.specs.declared.end_heads.EndHeads.{EndHeads}
use Rattle.tydi_tool.specs.Arrivals.{ReadsArrival, ends_of}
use Rattle.tydi_tool.proofs.ArrivalLemmas.{ends-stay}
use Rattle.tydi_tool.proofs.TraceFileLemmas.{on_ok_any}
use Rattle.tydi_tool.proofs.arrivals.ArrivalFileReaderArrival.feed.Goals as goal

pub returns-clause-stands : goal.returns-clause-stands
returns-clause-stands c = on_ok_any c.feed.result _ (c.requires.stands.0 ++ c.args.piece.now, c.feed.ensures.stands c.requires.stands.0 c.requires.stands.1)

pub returns-clause-reads : goal.returns-clause-reads
returns-clause-reads c = on_ok_any c.feed.result _ (λ rest read reads bytes stands.
    subst (λ (heads : EndHeads). ReadsArrival heads c.args.self.now.word.now (bytes ++ (c.args.piece.now ++ rest)) read)
    (ends-stay c.feed.new.self.sink c.args.self.now.reader.sink c.feed.ensures.setting)
    (subst (λ (l : List ℕ). ReadsArrival (ends_of c.feed.new.self.sink) c.args.self.now.word.now l read) (append_assoc bytes c.args.piece.now rest)
    (reads (bytes ++ c.args.piece.now) (c.feed.ensures.stands bytes stands))))
