use Rattle.std.proofs.Common.{Ok, Err}
use Rattle.trace_compare.specs.Texts.{Comparison, wants_of}
use Rattle.type_split.specs.Streams.{plain_split}
use Rattle.tydi_io.specs.Faults.{Rose}
use Rattle.tydi_tool.specs.Ask.{Ends}
use Rattle.tydi_tool.specs.Comparisons.{ReadsComparison, TellsComparison, comparison_in}
use Rattle.tydi_tool.specs.Words.{trace_file}
use Rattle.tydi_tool.proofs.AskLemmas.{DecidedBy-asked, DecidedBy-last}
use Rattle.tydi_tool.proofs.CompareLemmas.{asked-comparer, compared-names_read}
use Rattle.tydi_tool.proofs.compare.compare_with.Goals as goal

pub told-requires : goal.told-requires
told-requires g c =
    let split = plain_split c.args.split.now in
    let wants = wants_of c.args.reader.comparer in
    let asked = asked-comparer split wants c.args.trace.now c.args.reader (g.S.Store.files c.args.store.now) (trace_file c.args.trace.now) (g.S.Store.started c.args.store.now) (g.S.Store.started c.ask.new.store)
    (Rose (g.S.Store.faults c.args.store.now) (g.S.Store.faults c.ask.new.store)) (Ok c.in-Ok.found) c.requires.new c.in-Ok.ensures.asked in
    compared-names_read split wants c.requires.lists c.args.trace.now asked.0 (comparison_in c.in-Ok.found) asked.1.1.0

pub returns-in-Ok : goal.returns-in-Ok
returns-in-Ok g c =
    let split = plain_split c.args.split.now in
    let wants = wants_of c.args.reader.comparer in
    record {
      decided = DecidedBy-last (trace_file c.args.trace.now) Comparison (ReadsComparison split wants c.args.trace.now) (TellsComparison split c.args.trace.now) _ (g.S.Store.started c.args.store.now) _ _ _
          (comparison_in c.in-Ok.found) c.told.result
          (asked-comparer split wants c.args.trace.now c.args.reader (g.S.Store.files c.args.store.now) (trace_file c.args.trace.now) (g.S.Store.started c.args.store.now) (g.S.Store.started c.ask.new.store)
          (Rose (g.S.Store.faults c.args.store.now) (g.S.Store.faults c.ask.new.store)) (Ok c.in-Ok.found) c.requires.new c.in-Ok.ensures.asked) c.told.ensures;
    }

pub returns-in-Err : goal.returns-in-Err
returns-in-Err g c =
    let split = plain_split c.args.split.now in
    let wants = wants_of c.args.reader.comparer in
    record {
      decided = DecidedBy-asked (trace_file c.args.trace.now) Comparison (ReadsComparison split wants c.args.trace.now) (λ found. Ends (TellsComparison split c.args.trace.now found))
          (g.S.Store.files c.args.store.now) (g.S.Store.started c.args.store.now) (g.S.Store.started c.ask.new.store)
          (Rose (g.S.Store.faults c.args.store.now) (g.S.Store.faults c.ask.new.store)) c.in-Err.reply
          (asked-comparer split wants c.args.trace.now c.args.reader (g.S.Store.files c.args.store.now) (trace_file c.args.trace.now) (g.S.Store.started c.args.store.now) (g.S.Store.started c.ask.new.store)
          (Rose (g.S.Store.faults c.args.store.now) (g.S.Store.faults c.ask.new.store)) (Err c.in-Err.reply) c.requires.new c.in-Err.ensures.asked);
    }
