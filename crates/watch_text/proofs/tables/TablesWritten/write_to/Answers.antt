use Rattle.std.proofs.lemmas.Slice.Zip.{Zip-more, either_empty_from_Zip}
use Rattle.std.specs.Iterator.Adapters.{zip_first, zip_second}
use Rattle.std.specs.Slice.Iter.{iter_rest}
use Rattle.watch_text.specs.Text.{table_text, tables_text}
use Rattle.watch_text.proofs.LoopLemmas.{begun-end, begun-more}
use Rattle.watch_text.proofs.PrintingLemmas.{tables-none, tables-step}
use Rattle.watch_text.proofs.tables.TablesWritten.write_to.Goals as goal

pub tables-preserved : goal.tables-preserved
tables-preserved c =
    let more = Zip-more c.tables.head-iterator c.next.new.self c.next.result (c.in-Some.head, c.in-Some.items) c.in-Some.is c.next.ensures.steps in
    begun-more _ c.tables.out c.emit.new.self (table_text c.in-Some.head.now c.as_slice.result.now) (tables_text (iter_rest (zip_first c.tables.head-iterator)) (iter_rest (zip_second c.tables.head-iterator)))
    (tables_text (iter_rest (zip_first c.next.new.self)) (iter_rest (zip_second c.next.new.self))) _ c.tables.invariant c.in_ok-emit.ensures.ok
    (tables-step (iter_rest (zip_first c.tables.head-iterator)) (iter_rest (zip_first c.next.new.self)) (iter_rest (zip_second c.tables.head-iterator)) (iter_rest (zip_second c.next.new.self)) c.in-Some.head.now c.in-Some.items.now
    c.as_slice.result.now more.0 more.1 c.as_slice.ensures)

pub returns-clause-ok : goal.returns-clause-ok
returns-clause-ok c =
    begun-end _ c.tables.out (tables_text (iter_rest (zip_first c.tables.head-iterator)) (iter_rest (zip_second c.tables.head-iterator))) _ c.tables.invariant
    (tables-none (iter_rest (zip_first c.tables.head-iterator)) (iter_rest (zip_second c.tables.head-iterator)) (either_empty_from_Zip c.tables.head-iterator c.next.new.self c.next.result c.in-None.is c.next.ensures.steps))
