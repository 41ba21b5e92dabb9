use Rattle.std.proofs.Common.{◌∙◌, sym}
use Rattle.elastic_net.proofs.StandLemmas.{acts-held, acts-rests, acts-sent, back_here, kept_here, source-holds}
use Rattle.elastic_net.proofs.chain.Chain.act_source.Goals as goal

pub returns-then-rests-clause-acts : goal.returns-then-rests-clause-acts
returns-then-rests-clause-acts g c = λ ts s ready at now room.
    let self = c.args.self.now in
    let mid = c.fill.new.self in
    let kept = c.fill.ensures.kept in
    acts-rests self.params ts self.gaps self.stages s mid.past.items mid.places.items (g.F.TransferFeed.rest mid.feed) mid.pause mid.tail mid.total now ready self.holds mid.holds c.wait.new.self.holds
    (kept_here self.params mid.params ts self.gaps mid.gaps self.stages mid.stages s _ _ _ _ _ _ _ kept.params kept.gaps kept.stages (c.fill.ensures.at ts s at))
    c.fill.ensures.full (c.rests.ensures.yes c.if-rests.true) c.fill.ensures.holds c.wait.ensures.holds

pub returns-then-room-clause-acts : goal.returns-then-room-clause-acts
returns-then-room-clause-acts g c = λ ts s ready at now room.
    let self = c.args.self.now in
    let mid = c.fill.new.self in
    let kept = c.fill.ensures.kept in
    let facts = c.rests.ensures.no c.if-rests.false in
    acts-sent self.params ts self.gaps self.stages s mid.past.items mid.places.items (g.F.TransferFeed.rest mid.feed) mid.pause mid.tail mid.total now ready self.holds mid.holds c.send.new.self.holds
    (kept_here self.params mid.params ts self.gaps mid.gaps self.stages mid.stages s _ _ _ _ _ _ _ kept.params kept.gaps kept.stages (c.fill.ensures.at ts s at))
    facts.0 facts.1 (sym room ∙ c.if-room.true) c.send.ensures.holds

pub returns-else-room-clause-acts : goal.returns-else-room-clause-acts
returns-else-room-clause-acts g c = λ ts s ready at now room.
    let self = c.args.self.now in
    let mid = c.fill.new.self in
    let kept = c.fill.ensures.kept in
    let facts = c.rests.ensures.no c.if-rests.false in
    acts-held self.params ts self.gaps self.stages s mid.past.items mid.places.items (g.F.TransferFeed.rest mid.feed) mid.pause mid.tail mid.total now ready self.holds mid.holds
    (kept_here self.params mid.params ts self.gaps mid.gaps self.stages mid.stages s _ _ _ _ _ _ _ kept.params kept.gaps kept.stages (c.fill.ensures.at ts s at))
    facts.0 facts.1 (sym room ∙ c.if-room.false)

pub returns-else-room-clause-at : goal.returns-else-room-clause-at
returns-else-room-clause-at g c = λ ts s ready at now room.
    let self = c.args.self.now in
    let mid = c.fill.new.self in
    let kept = c.fill.ensures.kept in
    let facts = c.rests.ensures.no c.if-rests.false in
    back_here self.params mid.params ts self.gaps mid.gaps self.stages mid.stages _ _ _ _ _ _ _ _ kept.params kept.gaps kept.stages
    (source-holds self.params ts self.gaps self.stages s mid.past.items mid.places.items (g.F.TransferFeed.rest mid.feed) mid.pause mid.tail mid.total now ready mid.holds
    (kept_here self.params mid.params ts self.gaps mid.gaps self.stages mid.stages s _ _ _ _ _ _ _ kept.params kept.gaps kept.stages (c.fill.ensures.at ts s at))
    facts.0 facts.1 (sym room ∙ c.if-room.false))
