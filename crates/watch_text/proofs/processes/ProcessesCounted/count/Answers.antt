use Rattle.std.proofs.Common.{map}
use Rattle.std.proofs.lemmas.Slice.Zip.{either_empty_from_Zip}
use Rattle.std.specs.Iterator.Adapters.{zip_first, zip_second}
use Rattle.std.specs.Slice.Iter.{iter_rest}
use Rattle.watch_text.specs.Statements.{plain_statements}
use Rattle.watch_text.specs.Text.{processes_text}
use Rattle.watch_text.proofs.LoopLemmas.{counted-end}
use Rattle.watch_text.proofs.PrintingLemmas.{processes-none}
use Rattle.watch_text.proofs.processes.ProcessesCounted.count.Goals as goal

pub returns : goal.returns
returns c =
    counted-end c.procs.count (processes_text (iter_rest (zip_first c.procs.head-iterator)) (map plain_statements (iter_rest (zip_second c.procs.head-iterator)))) _ c.procs.invariant
    (processes-none (iter_rest (zip_first c.procs.head-iterator)) (iter_rest (zip_second c.procs.head-iterator)) (either_empty_from_Zip c.procs.head-iterator c.next.new.self c.next.result c.in-None.is c.next.ensures.steps))
