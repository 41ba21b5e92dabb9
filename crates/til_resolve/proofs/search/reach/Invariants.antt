use Rattle.std.proofs.Common.{take}
use Rattle.til_resolve.specs.Graph.{Reaches}
use Rattle.til_resolve.proofs.search.reach.Given as goal

abbrev pub invariant-targets : goal.invariant-targets
invariant-targets l = Reaches l.initial.reached.items l.initial.waiting (take l.target-index l.targets) l.reached.items l.waiting
