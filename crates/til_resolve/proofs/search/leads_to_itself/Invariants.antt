use Rattle.std.proofs.Common.{◌+◌, length}
use Rattle.til_resolve.specs.Graph.{Searches, number_unreached}
use Rattle.til_resolve.proofs.search.leads_to_itself.Given as goal

abbrev pub invariant-waiting : goal.invariant-waiting
invariant-waiting l = Searches l.graph l.start l.reached.items l.waiting

-- each turn takes one that waits, and each that begins to wait is marked
abbrev pub decreases-waiting : goal.decreases-waiting
decreases-waiting l = length l.waiting + number_unreached l.reached.items
