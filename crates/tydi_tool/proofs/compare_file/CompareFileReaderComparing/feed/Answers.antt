use Rattle.std.proofs.Common.{List, ℕ, ◌++◌, append_assoc, subst}
use Rattle.physical_stream.specs.declared.item.Item.{Item}
use Rattle.trace_compare.specs.Texts.{split_of, wants_of}
use Rattle.type_split.specs.Streams.{PlainSplit}
use Rattle.tydi_tool.specs.Comparisons.{ReadsComparison, comparison_in}
use Rattle.tydi_tool.specs.Reading.{Seen}
use Rattle.tydi_tool.proofs.TraceFileLemmas.{on_ok_any}
use Rattle.tydi_tool.proofs.compare_file.CompareFileReaderComparing.feed.Goals as goal

pub returns-clause-stands : goal.returns-clause-stands
returns-clause-stands c = on_ok_any c.feed.result _ (c.requires.stands.0 ++ c.args.piece.now, c.feed.ensures.fed c.requires.stands.0 c.requires.stands.1)

pub returns-clause-reads : goal.returns-clause-reads
returns-clause-reads c = on_ok_any c.feed.result _ (λ rest read reads bytes fed.
    subst (λ (s : PlainSplit). Seen comparison_in (ReadsComparison s (wants_of c.args.self.now.comparer) c.args.self.now.word.now (bytes ++ (c.args.piece.now ++ rest))) read) c.feed.ensures.split
    (subst (λ (w : List (List Item)). Seen comparison_in (ReadsComparison (split_of c.feed.new.self) w c.args.self.now.word.now (bytes ++ (c.args.piece.now ++ rest))) read) c.feed.ensures.wants
    (subst (λ (l : List ℕ). Seen comparison_in (ReadsComparison (split_of c.feed.new.self) (wants_of c.feed.new.self) c.args.self.now.word.now l) read) (append_assoc bytes c.args.piece.now rest)
    (reads (bytes ++ c.args.piece.now) (c.feed.ensures.fed bytes fed)))))
