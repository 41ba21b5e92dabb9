use Rattle.std.proofs.Common.{map}
use Rattle.std.proofs.lemmas.Slice.Zip.{Zip-more, either_empty_from_Zip}
use Rattle.std.specs.Iterator.Adapters.{zip_first, zip_second}
use Rattle.std.specs.Slice.Iter.{iter_rest}
use Rattle.watch_text.specs.Statements.{plain_statements}
use Rattle.watch_text.specs.Text.{process_text, processes_text}
use Rattle.watch_text.proofs.LoopLemmas.{begun-end, begun-more}
use Rattle.watch_text.proofs.PrintingLemmas.{processes-none, processes-step}
use Rattle.watch_text.proofs.processes.ProcessesWritten.write_to.Goals as goal

pub procs-preserved : goal.procs-preserved
procs-preserved c =
    let more = Zip-more c.procs.head-iterator c.next.new.self c.next.result (c.in-Some.head, c.in-Some.process) c.in-Some.is c.next.ensures.steps in
    begun-more _ c.procs.out c.emit.new.self (process_text c.in-Some.head.now (plain_statements c.as_slice.result.now)) (processes_text (iter_rest (zip_first c.procs.head-iterator)) (map plain_statements (iter_rest (zip_second c.procs.head-iterator))))
    (processes_text (iter_rest (zip_first c.next.new.self)) (map plain_statements (iter_rest (zip_second c.next.new.self)))) _ c.procs.invariant c.in_ok-emit.ensures.ok
    (processes-step (iter_rest (zip_first c.procs.head-iterator)) (iter_rest (zip_first c.next.new.self)) (iter_rest (zip_second c.procs.head-iterator)) (iter_rest (zip_second c.next.new.self)) c.in-Some.head.now c.in-Some.process.now
    c.as_slice.result.now more.0 more.1 c.as_slice.ensures)

pub returns-clause-ok : goal.returns-clause-ok
returns-clause-ok c =
    begun-end _ c.procs.out (processes_text (iter_rest (zip_first c.procs.head-iterator)) (map plain_statements (iter_rest (zip_second c.procs.head-iterator)))) _ c.procs.invariant
    (processes-none (iter_rest (zip_first c.procs.head-iterator)) (iter_rest (zip_second c.procs.head-iterator)) (either_empty_from_Zip c.procs.head-iterator c.next.new.self c.next.result c.in-None.is c.next.ensures.steps))
