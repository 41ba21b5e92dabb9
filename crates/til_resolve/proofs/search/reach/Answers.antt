use Rattle.til_resolve.proofs.GraphLemmas.{Reaches-more}
use Rattle.til_resolve.proofs.search.reach.Goals as goal

pub targets-preserved : goal.targets-preserved
targets-preserved c = Reaches-more c.args.reached.now.items c.args.waiting.now c.args.targets.now c.targets.target-index c.targets.reached.items c.targets.waiting
    c.reach_one.new.reached.items c.reach_one.new.waiting c.targets-test.true c.targets.invariant c.in_ok-reach_one.ensures
