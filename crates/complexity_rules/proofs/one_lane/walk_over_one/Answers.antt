use Rattle.std.proofs.Common.{ℕ, [], sym, subst}
use Rattle.physical_stream.specs.Items.{lane_items, parts_below}
use Rattle.complexity_rules.specs.Walk.{Finds}
use Rattle.complexity_rules.proofs.one_lane.walk_over_one.Goals as goal

pub returns-clause-found : goal.returns-clause-found
returns-clause-found c =
    let p = c.args.p.now in
    subst (λ (n : ℕ). Finds p.dims c.args.tail (parts_below (lane_items p c.args.transfer.now) n) c.over_lane.result) (sym c.requires.one)
    (c.over_lane.ensures.found c.args.tail [] (c.after.ensures.found p.dims))
