use Rattle.std.specs.Iterator.Adapters.{zip_first, zip_second}
use Rattle.std.specs.Slice.Iter.{iter_rest}
use Rattle.watch_text.specs.Text.{tables_text}
use Rattle.watch_text.proofs.LoopLemmas.{IsCounted}
use Rattle.watch_text.proofs.tables.TablesCounted.count.Given as goal

-- the bytes of the tables so far, with those that are left, are all
abbrev pub invariant-tables : goal.invariant-tables
invariant-tables l = IsCounted l.count (tables_text (iter_rest (zip_first l.head-iterator)) (iter_rest (zip_second l.head-iterator))) (tables_text l.self.0.now l.self.1.now)
