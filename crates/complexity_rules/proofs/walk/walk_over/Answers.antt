use Rattle.std.proofs.Common.{◌≡◌, ℕ, ap, subst}
use Rattle.physical_stream.specs.Items.{lane_items, parts_below}
use Rattle.physical_stream.specs.Params.{Parameters}
use Rattle.complexity_rules.specs.Walk.{Finds}
use Rattle.complexity_rules.proofs.walk.walk_over.Goals as goal

pub returns-then-next_marked-p-clause-found : goal.returns-then-next_marked-p-clause-found
returns-then-next_marked-p-clause-found c =
    let lanes : c.p.inside.lanes ≡ c.args.p.now.lanes = ap (λ (p : Parameters). p.lanes) c.p.view_is in
    subst (λ (n : ℕ). Finds c.args.p.now.dims c.args.tail (parts_below (lane_items c.args.p.now c.args.transfer.now) n) c.over_unmarked.result) lanes
    (c.over_unmarked.ensures.found c.args.tail (c.after.ensures.found c.args.p.now.dims))
