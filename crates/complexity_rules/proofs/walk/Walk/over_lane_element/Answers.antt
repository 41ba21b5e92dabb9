use Rattle.std.proofs.Common.{◌∙◌, sym}
use Rattle.complexity_rules.proofs.WalkLemmas.{Finds-there, Finds-absent}
use Rattle.complexity_rules.proofs.walk.Walk.over_lane_element.Goals as goal

pub returns-then-is_lane_active-clause-found : goal.returns-then-is_lane_active-clause-found
returns-then-is_lane_active-clause-found c begins over f =
    Finds-there c.args.p.now.dims begins over _ _ c.over_element.result (sym c.is_lane_active.ensures ∙ c.if-is_lane_active.true) (c.over_element.ensures.found begins over _ f)

pub returns-else-is_lane_active-clause-found : goal.returns-else-is_lane_active-clause-found
returns-else-is_lane_active-clause-found c begins over f =
    Finds-absent c.args.p.now.dims begins over _ _ c.args.self (sym c.is_lane_active.ensures ∙ c.if-is_lane_active.false) f
