use Rattle.std.proofs.Common.{◌∷◌, [], sym, subst}
use Rattle.scheduler.specs.Laws.{AreItems}
use Rattle.scheduler.proofs.LoadLemmas.{AreItems-append}
use Rattle.layer_rows.proofs.plans.items_in.Goals as goal

pub bytes-preserved : goal.bytes-preserved
bytes-preserved c = subst (AreItems c.args.p.now) (sym c.in_ok-push.ensures.ok) (AreItems-append c.args.p.now c.bytes.items (c.in_ok-item_of.field-0 ∷ []) c.bytes.invariant c.in_ok-item_of.ensures)
