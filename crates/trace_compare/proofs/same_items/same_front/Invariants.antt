use Rattle.trace_compare.proofs.FrontLemmas.{SameTo}
use Rattle.trace_compare.proofs.same_items.same_front.Given as goal

abbrev pub invariant-items : goal.invariant-items
invariant-items l = SameTo l.want l.items l.place
