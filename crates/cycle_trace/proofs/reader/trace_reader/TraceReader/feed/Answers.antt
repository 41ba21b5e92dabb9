use Rattle.std.proofs.Common.{◌∙◌, [], refl}
use Rattle.tydi_base.specs.Pieces.{lines_of}
use Rattle.cycle_trace.specs.ReaderView.{StandsFor}
use Rattle.cycle_trace.proofs.ReaderLemmas.{FedSoFar-all, FedSoFar-more, FedSoFar-none, past_header, plain-first, spent_before}
use Rattle.cycle_trace.proofs.reader.trace_reader.TraceReader.feed.Goals as goal

pub lines-init : goal.lines-init
lines-init g c = record {
  so_far = FedSoFar-none c.args.piece.now (StandsFor g.K.RowSink.stands_for c.args.self.now);
  spent = λ fault failed. failed;
  fixed = refl;
  setting = refl;
  calm = λ fixed past. past;
}

pub end_line-requires-clause-stands : goal.end_line-requires-clause-stands
end_line-requires-clause-stands g c = (_, c.lines.invariant.so_far.stands c.requires.0 c.requires.1)

pub end_line-requires-clause-plain : goal.end_line-requires-clause-plain
end_line-requires-clause-plain g c = plain-first c.lines.rest.now c.in-Some.front.now (lines_of c.in-Some.after.now) c.in-Some.ensures.some

pub lines-preserved : goal.lines-preserved
lines-preserved g c =
    record {
      so_far =
          FedSoFar-more c.args.piece.now c.lines.rest.now c.in-Some.front.now c.in-Some.after.now (StandsFor g.K.RowSink.stands_for c.args.self.now) (StandsFor g.K.RowSink.stands_for c.lines.self) (StandsFor g.K.RowSink.stands_for c.end_line.new.self)
          c.lines.invariant.so_far c.in-Some.ensures.whole c.end_line.ensures.stands;
      spent = λ fault failed. c.end_line.ensures.failed fault (c.lines.invariant.spent fault failed);
      fixed = c.end_line.ensures.fixed ∙ c.lines.invariant.fixed;
      setting = c.end_line.ensures.setting ∙ c.lines.invariant.setting;
      calm = λ fixed past. c.end_line.ensures.calm (c.lines.invariant.fixed ∙ fixed) (c.lines.invariant.calm fixed past);
    }

pub begin_line-requires : goal.begin_line-requires
begin_line-requires g c = record {
  stands = (_, c.lines.invariant.so_far.stands c.requires.0 c.requires.1);
  plain = plain-first c.lines.rest.now c.lines.rest.now [] c.in_default.ensures.none;
}

pub returns-clause-stands : goal.returns-clause-stands
returns-clause-stands g c =
    FedSoFar-all c.args.piece.now c.lines.rest.now (StandsFor g.K.RowSink.stands_for c.args.self.now) (StandsFor g.K.RowSink.stands_for c.lines.self) (StandsFor g.K.RowSink.stands_for c.begin_line.new.self)
    c.lines.invariant.so_far c.begin_line.ensures.stands

pub returns-clause-fixed : goal.returns-clause-fixed
returns-clause-fixed g c = c.begin_line.ensures.fixed ∙ c.lines.invariant.fixed

pub returns-clause-setting : goal.returns-clause-setting
returns-clause-setting g c = c.begin_line.ensures.setting ∙ c.lines.invariant.setting

pub returns-clause-calm : goal.returns-clause-calm
returns-clause-calm g c bytes stands fixed held =
    let old = c.args.self.now in
    spent_before old.text.stage c.begin_line.new.self.text.stage (past_header g.K.RowSink.stands_for old.sink old.text old.text.stage stands.0 bytes stands.1.1 held)
    (λ past. c.begin_line.ensures.calm (c.lines.invariant.calm fixed past))
