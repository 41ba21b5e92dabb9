use Rattle.type_split.specs.Streams.{plain_split}
use Rattle.cycle_trace.specs.Trace.{TraceText, streams_of}
use Rattle.trace_compare.specs.Standing.{RunsOver}
use Rattle.trace_compare.proofs.TellLemmas.{AreTold}
use Rattle.trace_compare.proofs.compare_run.CompareRun.differences.Given as goal

abbrev pub invariant-streams : goal.invariant-streams
invariant-streams l = (t : TraceText) → RunsOver (plain_split l.split) l.wants t l.self → AreTold l.wants (streams_of t) l.stream l.found
