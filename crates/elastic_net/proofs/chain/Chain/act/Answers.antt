use Rattle.std.proofs.Common.{◌≡◌, ◌∙◌, ℕ, Bool, length, ap, subst, sym}
use Rattle.elastic_net.specs.States.{act_of}
use Rattle.elastic_net.specs.Standing.{KeepsShown}
use Rattle.elastic_net.proofs.RoomLemmas.{count-read}
use Rattle.elastic_net.proofs.StandLemmas.{seen-new, seen-still, seen_here}
use Rattle.elastic_net.proofs.chain.Chain.act.Goals as goal

pub returns-then-component-len-clause-stands : goal.returns-then-component-len-clause-stands
returns-then-component-len-clause-stands g c = λ ts s stands now.
    let self = c.args.self.now in
    let one = c.act_one-shows in
    let room = c.has_room-room.ensures ts s stands.chain in
    let acts = one.ensures.acts ts s c.args.ready stands.chain now room in
    let last : c.args.component ≡ length self.stages = c.if-component-len.true ∙ c.len.ensures ∙ ap length one.ensures.kept.stages in
    let number = count-read self.stages ts s.numbers self.past.items stands.chain.numbers c.args.component c.index-number.result.now c.requires.within self.each c.index-number.ensures in
    record {
      chain = one.ensures.at ts s c.args.ready stands.chain now room;
      seen = seen_here ts self.stages one.new.self.stages _ one.new.self.holds one.result c.index-number.result.now one.ensures.kept.stages
          (seen-new self.params ts self.gaps self.stages s c.args.component c.args.ready self.holds one.new.self.holds one.result acts c.index-number.result.now last number);
    }

pub returns-else-component-len-clause-stands : goal.returns-else-component-len-clause-stands
returns-else-component-len-clause-stands g c = λ ts s stands now.
    let self = c.args.self.now in
    let one = c.act_one-shows in
    let new = one.new.self in
    let room = c.has_room-room.ensures ts s stands.chain in
    let acts = one.ensures.acts ts s c.args.ready stands.chain now room in
    let later = act_of self.params ts self.gaps self.stages c.args.component c.args.ready s in
    let other = λ (is : c.args.component ≡ length self.stages). c.if-component-len.false (is ∙ sym (c.len.ensures ∙ ap length one.ensures.kept.stages)) in
    record {
      chain = one.ensures.at ts s c.args.ready stands.chain now room;
      seen = seen_here ts self.stages new.stages later new.holds new.shows new.number one.ensures.kept.stages
          (subst (λ (b : Bool). KeepsShown self.stages ts later new.holds b new.number) (sym one.ensures.shows)
          (subst (λ (n : ℕ). KeepsShown self.stages ts later new.holds self.shows n) (sym one.ensures.number)
          (seen-still self.params ts self.gaps self.stages s c.args.component c.args.ready self.holds new.holds one.result acts self.shows self.number other stands.seen)));
    }
