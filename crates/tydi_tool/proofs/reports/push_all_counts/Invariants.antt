use Rattle.std.proofs.Common.{◌≡◌, ◌++◌}
use Rattle.std.specs.Iterator.Adapters.{zip_first, zip_second}
use Rattle.std.specs.Slice.Iter.{iter_rest}
use Rattle.tydi_tool.specs.Lines.{counts_text}
use Rattle.tydi_tool.proofs.reports.push_all_counts.Given as goal

abbrev pub invariant-streams : goal.invariant-streams
invariant-streams l = l.text ++ counts_text (iter_rest (zip_first l.head-iterator)) (iter_rest (zip_second l.head-iterator)) ≡ l.fn.text ++ counts_text l.heads l.counts
