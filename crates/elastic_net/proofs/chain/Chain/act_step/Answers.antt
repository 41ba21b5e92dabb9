use Rattle.elastic_net.proofs.StandLemmas.{stands-turned}
use Rattle.elastic_net.specs.States.{act_of}
use Rattle.elastic_net.proofs.chain.Chain.act_step.Goals as goal

pub returns-clause-stands : goal.returns-clause-stands
returns-clause-stands g c = λ ts s stands now.
    let self = c.args.self.now in
    stands-turned g.F.TransferFeed.rest c.act.new.self ts self.stages (act_of self.params ts self.gaps self.stages c.args.component c.args.ready s) (c.act.ensures.stands ts s stands now)
