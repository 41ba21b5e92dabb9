use Rattle.std.proofs.Common.{map}
use Rattle.std.specs.Iterator.Adapters.{zip_first, zip_second}
use Rattle.std.specs.Slice.Iter.{iter_rest}
use Rattle.watch_text.specs.Statements.{plain_statements}
use Rattle.watch_text.specs.Text.{processes_text}
use Rattle.watch_text.proofs.LoopLemmas.{IsCounted}
use Rattle.watch_text.proofs.processes.ProcessesCounted.count.Given as goal

-- the bytes of the processes so far, with those that are left, are all
abbrev pub invariant-procs : goal.invariant-procs
invariant-procs l = IsCounted l.count (processes_text (iter_rest (zip_first l.head-iterator)) (map plain_statements (iter_rest (zip_second l.head-iterator))))
    (processes_text l.self.0.now (map plain_statements l.self.1.now))
