use Rattle.scheduler.specs.Laws.{AreItems}
use Rattle.layer_rows.proofs.plans.items_in.Given as goal

-- the items fit the stream
abbrev pub invariant-bytes : goal.invariant-bytes
invariant-bytes l = AreItems l.p l.items
