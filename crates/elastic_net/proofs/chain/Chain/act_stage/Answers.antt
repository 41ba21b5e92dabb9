use Rattle.std.proofs.Common.{◌∙◌, refl, sym, true, false}
use Rattle.elastic_net.proofs.StandLemmas.{stage-empty, stage-holds, stage-moves, stage-shows, stage-shows-none}
use Rattle.elastic_net.proofs.chain.Chain.act_stage.Goals as goal

pub returns-then-moved-index-clause-at : goal.returns-then-moved-index-clause-at
returns-then-moved-index-clause-at g c = λ ts s ready at room.
    let self = c.args.self.now in
    stage-empty self.params ts self.gaps self.stages s self.past.items self.holds self.places.items (g.F.TransferFeed.rest self.feed) self.pause self.tail self.total at ready
    c.args.component c.index-moved.result.now c.index.result.now c.requires.first c.requires.within self.each c.index-moved.ensures c.index.ensures c.if-moved-index.true

pub returns-then-moved-index-clause-acts : goal.returns-then-moved-index-clause-acts
returns-then-moved-index-clause-acts g c = λ ts s ready at room.
    let self = c.args.self.now in
    stage-shows-none self.params ts self.gaps self.stages s self.past.items self.holds self.places.items (g.F.TransferFeed.rest self.feed) self.pause self.tail self.total at ready
    c.args.component c.index-moved.result.now c.index.result.now c.requires.first c.requires.within self.each c.index-moved.ensures c.index.ensures c.if-moved-index.true

pub returns-then-room-clause-at : goal.returns-then-room-clause-at
returns-then-room-clause-at g c = λ ts s ready at room.
    let self = c.args.self.now in
    stage-moves self.params ts self.gaps self.stages s self.past.items self.holds self.places.items (g.F.TransferFeed.rest self.feed) self.pause self.tail self.total at ready
    c.args.component c.index-moved.result.now c.index.result.now c.requires.first c.requires.within self.each c.index-moved.ensures c.index.ensures _ c.if-moved-index.false (sym room ∙ c.if-room.true) refl

pub returns-then-room-clause-acts : goal.returns-then-room-clause-acts
returns-then-room-clause-acts g c = λ ts s ready at room.
    let self = c.args.self.now in
    stage-shows self.params ts self.gaps self.stages s self.past.items self.holds self.places.items (g.F.TransferFeed.rest self.feed) self.pause self.tail self.total at ready
    c.args.component c.index-moved.result.now c.index.result.now c.requires.first c.requires.within self.each c.index-moved.ensures c.index.ensures true c.if-moved-index.false (sym room ∙ c.if-room.true)

pub returns-else-room-clause-acts : goal.returns-else-room-clause-acts
returns-else-room-clause-acts g c = λ ts s ready at room.
    let self = c.args.self.now in
    stage-shows self.params ts self.gaps self.stages s self.past.items self.holds self.places.items (g.F.TransferFeed.rest self.feed) self.pause self.tail self.total at ready
    c.args.component c.index-moved.result.now c.index.result.now c.requires.first c.requires.within self.each c.index-moved.ensures c.index.ensures false c.if-moved-index.false (sym room ∙ c.if-room.false)

pub returns-else-room-clause-at : goal.returns-else-room-clause-at
returns-else-room-clause-at g c = λ ts s ready at room.
    let self = c.args.self.now in
    stage-holds self.params ts self.gaps self.stages s self.past.items self.holds self.places.items (g.F.TransferFeed.rest self.feed) self.pause self.tail self.total at ready
    c.args.component c.index-moved.result.now c.index.result.now c.requires.first c.requires.within self.each c.index-moved.ensures c.index.ensures c.if-moved-index.false (sym room ∙ c.if-room.false)
