use Rattle.std.proofs.lemmas.Slice.Zip.{either_empty_from_Zip}
use Rattle.std.specs.Iterator.Adapters.{zip_first, zip_second}
use Rattle.std.specs.Slice.Iter.{iter_rest}
use Rattle.watch_text.specs.Text.{tables_text}
use Rattle.watch_text.proofs.LoopLemmas.{counted-end}
use Rattle.watch_text.proofs.PrintingLemmas.{tables-none}
use Rattle.watch_text.proofs.tables.TablesCounted.count.Goals as goal

pub returns : goal.returns
returns c =
    counted-end c.tables.count (tables_text (iter_rest (zip_first c.tables.head-iterator)) (iter_rest (zip_second c.tables.head-iterator))) _ c.tables.invariant
    (tables-none (iter_rest (zip_first c.tables.head-iterator)) (iter_rest (zip_second c.tables.head-iterator)) (either_empty_from_Zip c.tables.head-iterator c.next.new.self c.next.result c.in-None.is c.next.ensures.steps))
