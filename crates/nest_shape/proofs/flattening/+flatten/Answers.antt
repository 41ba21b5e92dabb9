use Rattle.std.proofs.lemmas.Result.{on_ok_weaker}
use Rattle.nest_shape.proofs.FlatLemmas.{flat-list}
use Rattle.nest_shape.proofs.flattening.+flatten.Goals as goal

pub push_nest-returns-in_ok-push_nests-in-List : goal.push_nest-returns-in_ok-push_nests-in-List
push_nest-returns-in_ok-push_nests-in-List t c =
    on_ok_weaker c.push-in-List.result
    (λ pushed. flat-list c.args.depth c.saturating_sub-dim.result c.args.nest.now c.in-List.parts c.as_slice.result.now c.args.items.now c.push_nests.new.items c.push-in-List.new.self
    c.in-List.is c.as_slice.ensures c.saturating_sub-dim.ensures c.in_ok-push_nests-in-List.ensures pushed)
    c.push-in-List.ensures.ok
