use Rattle.std.proofs.Common.{◌≡◌, ◌∙◌, ◌+◌, ◌++◌, ◌∷◌, [], ℕ, ◌&&◌, ◌≤◌, not, Bool, sym, ap, subst}
use Rattle.std.specs.VecDeque.{deque_capacity}
use Rattle.physical_stream.specs.Params.{Parameters}
use Rattle.physical_stream.specs.Cycles.{cycle_in, done_in, items_done}
use Rattle.physical_stream.specs.Items.{items_of_all}
use Rattle.physical_stream.specs.Signals.{zero_transfer}
use Rattle.reshape.specs.Kept.{items_left, most_items}
use Rattle.reshape.specs.Standing.{offered_by}
use Rattle.reshape.proofs.DueLemmas.{room-left}
use Rattle.reshape.proofs.ReshapeLemmas.{items-none, shows-on, stands-on}
use Rattle.reshape.proofs.reshaper.Reshaper.edge.Goals as goal
use Rattle.reshape.proofs.reshaper.Reshaper.edge.Goals.{then-self, else-self, then-self-2, else-self-2}

pub pass-begun-requires-clause-due : goal.pass-begun-requires-clause-due
pass-begun-requires-clause-due c =
    let self = c.args.self.now in
    λ none. room-left self.buffer.params self.buffer.items.items self.front self.ended self.kept.some self.kept.reach (sym self.kept.asks ∙ none)

pub invariant_of-self-3 : goal.invariant_of-self-3
invariant_of-self-3 c =
    let self = c.args.self.now in
    let new = c.pass-begun.new.buffer in
    let params : new.params ≡ self.buffer.params = c.pass-begun.ensures.kept.params in
    let stays : c.if-self.stays ≡ (self.due && not c.args.taken) = elim c.if-self.branch [
      | then-self w ↦ w.stays-is ∙ sym (ap (λ (b : Bool). b && not c.args.taken) w.if-self.true)
      | else-self w ↦ w.stays-is ∙ w.if-self.false ∙ sym (ap (λ (b : Bool). b && not c.args.taken) w.if-self.false)
    ] in
    let wanted : c.if-self-2.refresh ≡ (c.is_due-self.result && not c.if-self.stays) = elim c.if-self-2.branch [
      | then-self-2 w ↦ w.refresh-is ∙ sym (ap (λ (b : Bool). b && not c.if-self.stays) w.if-self-2.true)
      | else-self-2 w ↦ w.refresh-is ∙ w.if-self-2.false ∙ sym (ap (λ (b : Bool). b && not c.if-self.stays) w.if-self-2.false)
    ] in (
      (new.fit, (new.wide, (new.total, (new.room, tt)))),
      (
        record {
          dims = self.kept.dims ∙ sym (ap (λ (p : Parameters). p.dims) params);
          element = self.kept.element ∙ sym (ap (λ (p : Parameters). p.element) params);
          some = subst (λ (p : Parameters). 1 ≤ p.lanes) (sym params) self.kept.some;
          most = c.pass-begun.ensures.kept.most ∙ self.kept.most ∙ sym (ap (λ (p : Parameters). self.from.lanes + p.lanes) params);
          places = subst (λ (p : Parameters). most_items self.from p ≤ deque_capacity new.items) (sym params) (subst (λ (n : ℕ). most_items self.from self.buffer.params ≤ n) (sym c.pass-begun.ensures.kept.places) self.kept.places);
          reach = c.extend-self.ensures;
          clear = self.kept.clear ∙ sym (ap zero_transfer params);
          room = c.refresh.ensures.fits;
          asks = c.is_due-self.ensures;
          shows = shows-on self.buffer.params new.params params self.buffer.items.items new.items.items _ self.due c.args.taken c.is_due-self.result c.if-self.stays c.if-self-2.refresh self.offered c.refresh.new.into self.kept.shows
              c.pass-begun.ensures.items (λ was. items-none self.from c.args.given (c.requires.ready ∙ ap not (sym self.kept.asks ∙ was))) stays wanted c.refresh.ensures.made c.refresh.ensures.same;
        },
        tt,
      ),
    )

pub returns-clause-stands : goal.returns-clause-stands
returns-clause-stands c = λ items out stands.
    let self = c.args.self.now in
    let new = c.pass-begun.new.buffer in
    let params : new.params ≡ self.buffer.params = c.pass-begun.ensures.kept.params in
    record {
      items = subst (λ (p : Parameters). items_of_all p (out ++ done_in (record { ready = c.args.taken; shown = offered_by self })) ++ new.items.items ≡ items ++ items_done self.from (cycle_in c.args.given ∷ [])) (sym params)
          (stands-on self.buffer.params self.ended c.args.taken self.buffer.items.items new.items.items items (items_done self.from (cycle_in c.args.given ∷ [])) out self.kept.some self.buffer.fit stands.items
          (c.pass-begun.ensures.items ∙ ap (λ (b : Bool). items_left self.buffer.params b c.args.taken self.buffer.items.items ++ items_done self.from (cycle_in c.args.given ∷ [])) self.kept.asks));
    }
