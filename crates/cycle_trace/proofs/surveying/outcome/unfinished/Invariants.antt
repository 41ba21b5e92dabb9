use Rattle.std.proofs.Common.{List}
use Rattle.physical_stream.specs.Cycles.{StreamTrace}
use Rattle.cycle_trace.specs.Surveying.{AreChecked}
use Rattle.cycle_trace.proofs.EndLemmas.{GoesOn}
use Rattle.cycle_trace.proofs.surveying.outcome.unfinished.Given as goal

abbrev pub invariant-checkers : goal.invariant-checkers
invariant-checkers l = (streams : List StreamTrace) → AreChecked streams l.checkers → GoesOn streams l.stream
