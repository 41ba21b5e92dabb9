use Rattle.std.proofs.Common.{length}
use Rattle.cycle_trace.specs.ReaderView.{StandsFor}
use Rattle.cycle_trace.proofs.ReaderLemmas.{FedSoFar, Feeds}
use Rattle.cycle_trace.proofs.reader.trace_reader.TraceReader.feed.Given as goal

abbrev pub invariant-lines : goal.invariant-lines
invariant-lines g l =
    Feeds l.fn.self.text.stage l.self.text.stage (g.K.RowSink.fixed l.fn.self.sink) (g.K.RowSink.fixed l.self.sink) (g.K.RowSink.setting l.fn.self.sink) (g.K.RowSink.setting l.self.sink)
    (FedSoFar l.piece l.rest (StandsFor g.K.RowSink.stands_for l.fn.self) (StandsFor g.K.RowSink.stands_for l.self))

abbrev pub decreases-lines : goal.decreases-lines
decreases-lines g l = length l.rest
