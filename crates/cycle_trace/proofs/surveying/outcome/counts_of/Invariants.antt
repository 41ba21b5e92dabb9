use Rattle.std.proofs.Common.{◌≡◌, List, map, take}
use Rattle.physical_stream.specs.Cycles.{StreamTrace}
use Rattle.cycle_trace.specs.Surveying.{AreChecked}
use Rattle.cycle_trace.proofs.EndLemmas.{count_in}
use Rattle.cycle_trace.proofs.surveying.outcome.counts_of.Given as goal

abbrev pub invariant-checkers : goal.invariant-checkers
invariant-checkers l = (streams : List StreamTrace) → AreChecked streams l.checkers → l.streams ≡ map count_in (take l.checker-index streams)
