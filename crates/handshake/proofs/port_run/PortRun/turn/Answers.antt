use Rattle.std.proofs.Common.{◌≡◌, ◌∙◌, suc, ◌-◌, ◌<◌, Bool, List, length, slice_get, None, Some, sym, ap, subst, arith}
use Rattle.std.proofs.lemmas.Option.{slice_get-get_or}
use Rattle.handshake.proofs.PortLemmas.{at-last, at-next, counted-down, has-some, is-none, none-turn, turn-first, turn-last, turn-next, turn-runs}
use Rattle.handshake.specs.Rows.{rows_behind}
use Rattle.handshake.specs.Turns.{FirstTurn}
use Rattle.physical_stream.specs.Cycles.{Cycle}
use Rattle.handshake.proofs.port_run.PortRun.turn.Goals as goal

pub returns-then-is_empty-clause-first : goal.returns-then-is_empty-clause-first
returns-then-is_empty-clause-first g c =
    let self = c.args.self.now in
    subst (λ (rows : List Cycle). FirstTurn rows self.cursors.items None)
    (sym (none-turn g.F.TransferFeed.rest g.F.TransferFeed.whole self.cursors.items self.ready self.number self.many self.stream self.at (is-none self.cursors.items _ _ self.cursors.ok.0 c.is_empty.ensures c.if-is_empty.true))) tt

pub returns-then-is_empty-clause-rows : goal.returns-then-is_empty-clause-rows
returns-then-is_empty-clause-rows g c =
    let self = c.args.self.now in
    let none = none-turn g.F.TransferFeed.rest g.F.TransferFeed.whole self.cursors.items self.ready self.number self.many self.stream self.at (is-none self.cursors.items _ _ self.cursors.ok.0 c.is_empty.ensures c.if-is_empty.true) in
    none ∙ sym (ap rows_behind none)

pub invariant_of-self : goal.invariant_of-self
invariant_of-self g c =
    let self = c.args.self.now in
    let cursor = c.index_mut.result.now in
    let some : self.many ≡ suc (self.many - 1) = counted-down self.many c.if-self-eq0.false in
    let within : self.stream < length self.cursors.items = self.at.within (has-some _ _ _ self.cursors.ok.0 c.is_empty.ensures c.if-is_empty.false) in
    let there : slice_get self.cursors.items self.stream ≡ Some cursor = slice_get-get_or self.cursors.items self.stream cursor within ∙ ap Some (sym c.index_mut.ensures.value) in
    record {
      at = at-next g.F.TransferFeed.rest g.F.TransferFeed.whole self.cursors.items self.ready self.number self.many self.stream self.at (self.many - 1) cursor c.step-shows.new.self c.bit_of-ready.result c.step-shows.result some there
          (record { params = c.step-shows.ensures.params; gaps = c.step-shows.ensures.gaps; all = c.step-shows.ensures.whole })
          (λ bits here. c.bit_of-ready.ensures bits (ap (λ (l : List (List Bool)). slice_get l self.stream) c.as_slice.ensures ∙ here)) c.step-shows.ensures.shown c.step-shows.ensures.stands (omega (arith, c.if-stream-len.true, c.len.ensures, self.cursors.ok.0));
      few = self.few;
    }

pub returns-then-stream-len-clause-first : goal.returns-then-stream-len-clause-first
returns-then-stream-len-clause-first g c =
    let self = c.args.self.now in
    let cursor = c.index_mut.result.now in
    let some : self.many ≡ suc (self.many - 1) = counted-down self.many c.if-self-eq0.false in
    let within : self.stream < length self.cursors.items = self.at.within (has-some _ _ _ self.cursors.ok.0 c.is_empty.ensures c.if-is_empty.false) in
    let there : slice_get self.cursors.items self.stream ≡ Some cursor = slice_get-get_or self.cursors.items self.stream cursor within ∙ ap Some (sym c.index_mut.ensures.value) in
    turn-first g.F.TransferFeed.rest g.F.TransferFeed.whole self.cursors.items self.ready self.number self.many self.stream self.at (self.many - 1) cursor c.step-shows.new.self c.bit_of-ready.result c.step-shows.result some there
    (record { params = c.step-shows.ensures.params; gaps = c.step-shows.ensures.gaps; all = c.step-shows.ensures.whole })
    (λ bits here. c.bit_of-ready.ensures bits (ap (λ (l : List (List Bool)). slice_get l self.stream) c.as_slice.ensures ∙ here)) c.step-shows.ensures.shown c.step-shows.ensures.stands

pub returns-then-stream-len-clause-rows : goal.returns-then-stream-len-clause-rows
returns-then-stream-len-clause-rows g c =
    let self = c.args.self.now in
    let cursor = c.index_mut.result.now in
    let some : self.many ≡ suc (self.many - 1) = counted-down self.many c.if-self-eq0.false in
    let within : self.stream < length self.cursors.items = self.at.within (has-some _ _ _ self.cursors.ok.0 c.is_empty.ensures c.if-is_empty.false) in
    let there : slice_get self.cursors.items self.stream ≡ Some cursor = slice_get-get_or self.cursors.items self.stream cursor within ∙ ap Some (sym c.index_mut.ensures.value) in
    turn-next g.F.TransferFeed.rest g.F.TransferFeed.whole self.cursors.items self.ready self.number self.many self.stream self.at (self.many - 1) cursor c.step-shows.new.self c.bit_of-ready.result c.step-shows.result some there
    (record { params = c.step-shows.ensures.params; gaps = c.step-shows.ensures.gaps; all = c.step-shows.ensures.whole })
    (λ bits here. c.bit_of-ready.ensures bits (ap (λ (l : List (List Bool)). slice_get l self.stream) c.as_slice.ensures ∙ here)) c.step-shows.ensures.shown c.step-shows.ensures.stands

pub returns-then-stream-len-clause-runs : goal.returns-then-stream-len-clause-runs
returns-then-stream-len-clause-runs g c =
    let self = c.args.self.now in
    let cursor = c.index_mut.result.now in
    let some : self.many ≡ suc (self.many - 1) = counted-down self.many c.if-self-eq0.false in
    let within : self.stream < length self.cursors.items = self.at.within (has-some _ _ _ self.cursors.ok.0 c.is_empty.ensures c.if-is_empty.false) in
    let there : slice_get self.cursors.items self.stream ≡ Some cursor = slice_get-get_or self.cursors.items self.stream cursor within ∙ ap Some (sym c.index_mut.ensures.value) in
    turn-runs g.F.TransferFeed.rest g.F.TransferFeed.whole self.cursors.items self.ready self.number self.many self.stream self.at (self.many - 1) cursor c.step-shows.new.self c.bit_of-ready.result c.step-shows.result some there
    (record { params = c.step-shows.ensures.params; gaps = c.step-shows.ensures.gaps; all = c.step-shows.ensures.whole })
    (λ bits here. c.bit_of-ready.ensures bits (ap (λ (l : List (List Bool)). slice_get l self.stream) c.as_slice.ensures ∙ here)) c.step-shows.ensures.shown c.step-shows.ensures.stands

pub invariant_of-self-2 : goal.invariant_of-self-2
invariant_of-self-2 g c =
    let self = c.args.self.now in
    let cursor = c.index_mut.result.now in
    let some : self.many ≡ suc (self.many - 1) = counted-down self.many c.if-self-eq0.false in
    let within : self.stream < length self.cursors.items = self.at.within (has-some _ _ _ self.cursors.ok.0 c.is_empty.ensures c.if-is_empty.false) in
    let there : slice_get self.cursors.items self.stream ≡ Some cursor = slice_get-get_or self.cursors.items self.stream cursor within ∙ ap Some (sym c.index_mut.ensures.value) in
    record {
      at = at-last g.F.TransferFeed.rest g.F.TransferFeed.whole self.cursors.items self.ready self.number self.many self.stream self.at (self.many - 1) cursor c.step-shows.new.self c.bit_of-ready.result c.step-shows.result some there
          (record { params = c.step-shows.ensures.params; gaps = c.step-shows.ensures.gaps; all = c.step-shows.ensures.whole })
          (λ bits here. c.bit_of-ready.ensures bits (ap (λ (l : List (List Bool)). slice_get l self.stream) c.as_slice.ensures ∙ here)) c.step-shows.ensures.shown c.step-shows.ensures.stands (omega (arith, c.if-stream-len.false, c.len.ensures, self.cursors.ok.0));
      few = omega (arith, some, self.few);
    }

pub returns-clause-first : goal.returns-clause-first
returns-clause-first g c =
    let self = c.args.self.now in
    let cursor = c.index_mut.result.now in
    let some : self.many ≡ suc (self.many - 1) = counted-down self.many c.if-self-eq0.false in
    let within : self.stream < length self.cursors.items = self.at.within (has-some _ _ _ self.cursors.ok.0 c.is_empty.ensures c.if-is_empty.false) in
    let there : slice_get self.cursors.items self.stream ≡ Some cursor = slice_get-get_or self.cursors.items self.stream cursor within ∙ ap Some (sym c.index_mut.ensures.value) in
    turn-first g.F.TransferFeed.rest g.F.TransferFeed.whole self.cursors.items self.ready self.number self.many self.stream self.at (self.many - 1) cursor c.step-shows.new.self c.bit_of-ready.result c.step-shows.result some there
    (record { params = c.step-shows.ensures.params; gaps = c.step-shows.ensures.gaps; all = c.step-shows.ensures.whole })
    (λ bits here. c.bit_of-ready.ensures bits (ap (λ (l : List (List Bool)). slice_get l self.stream) c.as_slice.ensures ∙ here)) c.step-shows.ensures.shown c.step-shows.ensures.stands

pub returns-clause-rows : goal.returns-clause-rows
returns-clause-rows g c =
    let self = c.args.self.now in
    let cursor = c.index_mut.result.now in
    let some : self.many ≡ suc (self.many - 1) = counted-down self.many c.if-self-eq0.false in
    let within : self.stream < length self.cursors.items = self.at.within (has-some _ _ _ self.cursors.ok.0 c.is_empty.ensures c.if-is_empty.false) in
    let there : slice_get self.cursors.items self.stream ≡ Some cursor = slice_get-get_or self.cursors.items self.stream cursor within ∙ ap Some (sym c.index_mut.ensures.value) in
    turn-last g.F.TransferFeed.rest g.F.TransferFeed.whole self.cursors.items self.ready self.number self.many self.stream self.at (self.many - 1) cursor c.step-shows.new.self c.bit_of-ready.result c.step-shows.result some there
    (record { params = c.step-shows.ensures.params; gaps = c.step-shows.ensures.gaps; all = c.step-shows.ensures.whole })
    (λ bits here. c.bit_of-ready.ensures bits (ap (λ (l : List (List Bool)). slice_get l self.stream) c.as_slice.ensures ∙ here)) c.step-shows.ensures.shown c.step-shows.ensures.stands (omega (arith, c.if-stream-len.false, c.len.ensures, self.cursors.ok.0))

pub returns-clause-runs : goal.returns-clause-runs
returns-clause-runs g c =
    let self = c.args.self.now in
    let cursor = c.index_mut.result.now in
    let some : self.many ≡ suc (self.many - 1) = counted-down self.many c.if-self-eq0.false in
    let within : self.stream < length self.cursors.items = self.at.within (has-some _ _ _ self.cursors.ok.0 c.is_empty.ensures c.if-is_empty.false) in
    let there : slice_get self.cursors.items self.stream ≡ Some cursor = slice_get-get_or self.cursors.items self.stream cursor within ∙ ap Some (sym c.index_mut.ensures.value) in
    turn-runs g.F.TransferFeed.rest g.F.TransferFeed.whole self.cursors.items self.ready self.number self.many self.stream self.at (self.many - 1) cursor c.step-shows.new.self c.bit_of-ready.result c.step-shows.result some there
    (record { params = c.step-shows.ensures.params; gaps = c.step-shows.ensures.gaps; all = c.step-shows.ensures.whole })
    (λ bits here. c.bit_of-ready.ensures bits (ap (λ (l : List (List Bool)). slice_get l self.stream) c.as_slice.ensures ∙ here)) c.step-shows.ensures.shown c.step-shows.ensures.stands
