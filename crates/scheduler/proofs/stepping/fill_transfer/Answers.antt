use Rattle.scheduler.proofs.StepLemmas.{filled-transfer}
use Rattle.scheduler.proofs.stepping.fill_transfer.Goals as goal

pub returns-clause-filled : goal.returns-clause-filled
returns-clause-filled c =
    filled-transfer c.args.p.now c.args.wish c.way_of-way.result c.args.items.now c.args.place c.put_lanes-rest.result c.args.into.now c.put_lanes-rest.new.into c.spread_strobe.new.into c.way_of-way.ensures c.put_lanes-rest.ensures.filled c.spread_strobe.ensures
