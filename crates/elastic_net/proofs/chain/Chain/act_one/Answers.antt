use Rattle.std.proofs.Common.{◌≡◌, ℕ, false, subst, sym}
use Rattle.elastic_net.specs.States.{act_of, has_acted, has_room}
use Rattle.elastic_net.specs.Standing.{ActsAs, KeepsChain}
use Rattle.elastic_net.proofs.chain.Chain.act_one.Goals as goal

pub returns-then-component-eq0-clause-at : goal.returns-then-component-eq0-clause-at
returns-then-component-eq0-clause-at g c = λ ts s ready at now room.
    let self = c.args.self.now in
    let new = c.act_source.new.self in
    subst (λ (n : ℕ). has_acted n s ≡ false → c.args.room ≡ has_room self.stages n ready s → KeepsChain new.params ts new.gaps new.stages (act_of self.params ts self.gaps self.stages n ready s)
    new.past.items new.holds new.places.items (g.F.TransferFeed.rest new.feed) new.pause new.tail new.total)
    (sym c.if-component-eq0.true) (λ x y. c.act_source.ensures.at ts s ready at x y) now room

pub returns-then-component-eq0-clause-acts : goal.returns-then-component-eq0-clause-acts
returns-then-component-eq0-clause-acts g c = λ ts s ready at now room.
    let self = c.args.self.now in
    let new = c.act_source.new.self in
    subst (λ (n : ℕ). has_acted n s ≡ false → c.args.room ≡ has_room self.stages n ready s → ActsAs self.params ts self.gaps self.stages s n ready self.holds new.holds c.act_source.result)
    (sym c.if-component-eq0.true) (λ x y. c.act_source.ensures.acts ts s ready at x y) now room

pub returns-else-component-eq0-clause-acts : goal.returns-else-component-eq0-clause-acts
returns-else-component-eq0-clause-acts g c = λ ts s ready at now room. c.act_stage.ensures.acts ts s ready at room
