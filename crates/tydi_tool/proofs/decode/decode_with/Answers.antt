use Rattle.std.proofs.Common.{Ok, Err}
use Rattle.trace_decode.specs.Outcome.{Outcome}
use Rattle.type_split.specs.Streams.{plain_split}
use Rattle.tydi_io.specs.Faults.{Rose}
use Rattle.tydi_tool.specs.Ask.{Ends}
use Rattle.tydi_tool.specs.Decodes.{ReadsOutcome, TellsOutcome, outcome_in}
use Rattle.tydi_tool.specs.Words.{trace_file}
use Rattle.tydi_tool.proofs.AskLemmas.{DecidedBy-asked, DecidedBy-last}
use Rattle.tydi_tool.proofs.DecodeLemmas.{asked-decoder, outcome-names_read}
use Rattle.tydi_tool.proofs.decode.decode_with.Goals as goal

pub told-requires : goal.told-requires
told-requires g c =
    let split = plain_split c.args.split.now in
    let asked = asked-decoder split c.args.trace.now c.args.reader (g.S.Store.files c.args.store.now) (trace_file c.args.trace.now) (g.S.Store.started c.args.store.now) (g.S.Store.started c.ask.new.store)
    (Rose (g.S.Store.faults c.args.store.now) (g.S.Store.faults c.ask.new.store)) (Ok c.in-Ok.found) c.requires.new c.in-Ok.ensures.asked in
    outcome-names_read split c.args.trace.now asked.0 (outcome_in c.in-Ok.found) asked.1.1.0

pub returns-in-Ok : goal.returns-in-Ok
returns-in-Ok g c =
    let split = plain_split c.args.split.now in
    record {
      decided = DecidedBy-last (trace_file c.args.trace.now) Outcome (ReadsOutcome split c.args.trace.now) (TellsOutcome split c.args.trace.now) _ (g.S.Store.started c.args.store.now) _ _ _
          (outcome_in c.in-Ok.found) c.told.result
          (asked-decoder split c.args.trace.now c.args.reader (g.S.Store.files c.args.store.now) (trace_file c.args.trace.now) (g.S.Store.started c.args.store.now) (g.S.Store.started c.ask.new.store)
          (Rose (g.S.Store.faults c.args.store.now) (g.S.Store.faults c.ask.new.store)) (Ok c.in-Ok.found) c.requires.new c.in-Ok.ensures.asked) c.told.ensures;
    }

pub returns-in-Err : goal.returns-in-Err
returns-in-Err g c =
    let split = plain_split c.args.split.now in
    record {
      decided = DecidedBy-asked (trace_file c.args.trace.now) Outcome (ReadsOutcome split c.args.trace.now) (λ outcome. Ends (TellsOutcome split c.args.trace.now outcome))
          (g.S.Store.files c.args.store.now) (g.S.Store.started c.args.store.now) (g.S.Store.started c.ask.new.store)
          (Rose (g.S.Store.faults c.args.store.now) (g.S.Store.faults c.ask.new.store)) c.in-Err.reply
          (asked-decoder split c.args.trace.now c.args.reader (g.S.Store.files c.args.store.now) (trace_file c.args.trace.now) (g.S.Store.started c.args.store.now) (g.S.Store.started c.ask.new.store)
          (Rose (g.S.Store.faults c.args.store.now) (g.S.Store.faults c.ask.new.store)) (Err c.in-Err.reply) c.requires.new c.in-Err.ensures.asked);
    }
