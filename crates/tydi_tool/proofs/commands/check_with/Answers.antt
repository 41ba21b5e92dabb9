use Rattle.std.proofs.Common.{Ok, Err}
use Rattle.tydi_io.specs.Faults.{Rose}
use Rattle.tydi_tool.specs.Ask.{Ends}
use Rattle.tydi_tool.specs.Reports.{Reports}
use Rattle.tydi_tool.specs.Traces.{ReadsTrace}
use Rattle.tydi_tool.specs.Words.{trace_file}
use Rattle.tydi_tool.proofs.AskLemmas.{DecidedBy-last, DecidedBy-asked}
use Rattle.tydi_tool.proofs.ReadingLemmas.{IsFoundAmong-read}
use Rattle.tydi_tool.proofs.TraceFileLemmas.{IsAsked-new}
use Rattle.tydi_tool.proofs.commands.check_with.Goals as goal

pub report-requires : goal.report-requires
report-requires g c =
    let asked = IsAsked-new c.args.trace.now c.args.reader (g.S.Store.files c.args.store.now) (trace_file c.args.trace.now) (g.S.Store.started c.args.store.now) (g.S.Store.started c.ask.new.store)
    (Rose (g.S.Store.faults c.args.store.now) (g.S.Store.faults c.ask.new.store)) (Ok c.in-Ok.survey) c.requires.new c.in-Ok.ensures.asked in
    IsFoundAmong-read c.args.trace.now asked.0 c.in-Ok.survey asked.1.1.0

pub returns-in-Ok : goal.returns-in-Ok
returns-in-Ok g c = record {
  decided = DecidedBy-last (trace_file c.args.trace.now) _ (ReadsTrace c.args.trace.now) (λ survey. Reports survey.heads survey.found) _ (g.S.Store.started c.args.store.now) _ _ _ c.in-Ok.survey c.report.result
      (IsAsked-new c.args.trace.now c.args.reader (g.S.Store.files c.args.store.now) (trace_file c.args.trace.now) (g.S.Store.started c.args.store.now) (g.S.Store.started c.ask.new.store)
      (Rose (g.S.Store.faults c.args.store.now) (g.S.Store.faults c.ask.new.store)) (Ok c.in-Ok.survey) c.requires.new c.in-Ok.ensures.asked) c.report.ensures;
}

pub returns-in-Err : goal.returns-in-Err
returns-in-Err g c = record {
  decided = DecidedBy-asked (trace_file c.args.trace.now) _ (ReadsTrace c.args.trace.now) (λ survey. Ends (λ a. Reports survey.heads survey.found a)) (g.S.Store.files c.args.store.now) (g.S.Store.started c.args.store.now) (g.S.Store.started c.ask.new.store)
      (Rose (g.S.Store.faults c.args.store.now) (g.S.Store.faults c.ask.new.store)) c.in-Err.reply
      (IsAsked-new c.args.trace.now c.args.reader (g.S.Store.files c.args.store.now) (trace_file c.args.trace.now) (g.S.Store.started c.args.store.now) (g.S.Store.started c.ask.new.store)
      (Rose (g.S.Store.faults c.args.store.now) (g.S.Store.faults c.ask.new.store)) (Err c.in-Err.reply) c.requires.new c.in-Err.ensures.asked);
}
