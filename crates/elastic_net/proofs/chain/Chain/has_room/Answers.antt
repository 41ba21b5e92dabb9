use Rattle.elastic_net.proofs.RoomLemmas.{room-sink, room-stage}
use Rattle.elastic_net.proofs.chain.Chain.has_room.Goals as goal

pub returns-in-Some : goal.returns-in-Some
returns-in-Some g c = λ ts s at.
    room-stage c.args.self.now.stages ts s.numbers c.args.self.now.past.items at.numbers c.args.ready c.args.component c.in-Some.capacity.now c.from.result c.index.result.now c.index-in-Some.result.now c.saturating_sub.result
    c.in-Some.ensures.within c.args.self.now.each c.in-Some.ensures.value c.from.ensures c.index.ensures c.index-in-Some.ensures c.saturating_sub.ensures

pub returns-in-None : goal.returns-in-None
returns-in-None g c = λ ts s at. room-sink c.args.self.now.stages s.numbers c.args.ready c.args.component c.in-None.ensures.value
