use Rattle.std.proofs.Common.{map, take}
use Rattle.cycle_trace.specs.Surveying.{AreChecked, unseen}
use Rattle.cycle_trace.proofs.surveying.outcome.checkers_of.Given as goal

abbrev pub invariant-heads : goal.invariant-heads
invariant-heads l = AreChecked (map unseen (take l.head-index l.heads)) l.checkers.items
