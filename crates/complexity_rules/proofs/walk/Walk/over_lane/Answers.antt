use Rattle.complexity_rules.proofs.WalkLemmas.{Finds-parts}
use Rattle.complexity_rules.proofs.walk.Walk.over_lane.Goals as goal

pub returns-clause-found : goal.returns-clause-found
returns-clause-found c begins over f =
    Finds-parts c.args.p.now.dims begins over _ _ c.over_marks.result (c.over_marks.ensures.found begins _ (c.over_lane_element.ensures.found begins over f))
