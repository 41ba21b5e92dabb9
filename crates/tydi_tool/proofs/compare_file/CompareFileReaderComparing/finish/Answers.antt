use Rattle.trace_compare.specs.Texts.{split_of, wants_of}
use Rattle.tydi_tool.proofs.CompareLemmas.{compared-at_end}
use Rattle.tydi_tool.proofs.compare_file.CompareFileReaderComparing.finish.Goals as goal

pub returns : goal.returns
returns c = compared-at_end c.args.self c.found.result c.requires.stands
    (λ bytes fed. c.found.ensures (split_of c.args.self.comparer) (wants_of c.args.self.comparer) bytes (c.finish.ensures bytes fed))
