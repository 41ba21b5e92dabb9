use Rattle.std.proofs.Common.{arith}
use Rattle.complexity_rules.proofs.WalkLemmas.{Finds-place}
use Rattle.complexity_rules.proofs.walk.Walk.over_marks.Goals as goal

pub dims-preserved : goal.dims-preserved
dims-preserved c = record { found = λ begins over f. Finds-place c.args.p.now.dims begins over _ c.dims.dim c.over_mark-walk.result (c.over_mark-walk.ensures.found begins _ (c.dims.invariant.found begins over f)); few = omega arith }
