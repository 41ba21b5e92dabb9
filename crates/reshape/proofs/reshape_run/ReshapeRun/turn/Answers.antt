use Rattle.std.proofs.Common.{◌≡◌, ◌∙◌, ◌+◌, ℕ, Bool, false, List, get_or, length, drop, take, slice_get, Some, sym, subst, ap, arith}
use Rattle.std.proofs.lemmas.Option.{slice_get-get_or}
use Rattle.physical_stream.specs.Params.{Parameters}
use Rattle.physical_stream.specs.Counts.{transfers_of}
use Rattle.physical_stream.specs.declared.transfer.Transfer.{Transfer}
use Rattle.reshape.specs.Reshaping.{far_of, sides_of}
use Rattle.reshape.specs.Runs.{IsAt}
use Rattle.reshape.specs.Standing.{to_of}
use Rattle.reshape.proofs.TurnLemmas.{behind-drop, count-few, count-next, fits-kept, rows-none, same-run, turn-none, turn-some}
use Rattle.reshape.proofs.reshape_run.ReshapeRun.turn.Goals as goal

pub returns-then-self-len-clause-first : goal.returns-then-self-len-clause-first
returns-then-self-len-clause-first g c =
    let self = c.args.self.now in
    let over = c.if-self-len.true in
    let len = c.len.ensures in
    turn-none self.near.params (to_of self.reshaper) (g.F.TransferFeed.whole self.near.feed) self.near.gaps self.ready self.number self.shown (omega (arith, over, len))

pub returns-then-self-len-clause-rows : goal.returns-then-self-len-clause-rows
returns-then-self-len-clause-rows g c =
    let self = c.args.self.now in
    let over = c.if-self-len.true in
    let len = c.len.ensures in
    rows-none self.near.params (to_of self.reshaper) (g.F.TransferFeed.whole self.near.feed) self.near.gaps self.ready self.number (omega (arith, over, len))

pub overflow_add-self-2 : goal.overflow_add-self-2
overflow_add-self-2 g c =
    let self = c.args.self.now in
    let few = count-few self.near.params (to_of self.reshaper) (g.F.TransferFeed.whole self.near.feed) self.near.gaps self.ready self.number self.at.within in
    let count = self.count in
    let less = c.if-self-len.false in
    let len = c.len.ensures in
    let one = c.done_in.ensures.few in
    let slice = c.as_slice-2.ensures in
    let long = c.as_slice-2.type_inv.0 in
    omega (arith, few, count, less, len, one, ap length slice, long)

pub invariant_of-self-2-clause-at : goal.invariant_of-self-2-clause-at
invariant_of-self-2-clause-at g c =
    subst (λ (l : List Bool). IsAt g.F.TransferFeed.rest g.F.TransferFeed.whole c.cross.new.near c.cross.new.reshaper l (c.args.self.now.number + 1)) c.as_slice-2.ensures c.cross.ensures.at

pub invariant_of-self-2-clause-fits : goal.invariant_of-self-2-clause-fits
invariant_of-self-2-clause-fits g c =
    let self = c.args.self.now in
    fits-kept self.near.params c.cross.new.near.params (g.F.TransferFeed.whole self.near.feed) (g.F.TransferFeed.whole c.cross.new.near.feed) self.fits c.cross.ensures.params c.cross.ensures.whole

pub invariant_of-self-2-clause-count : goal.invariant_of-self-2-clause-count
invariant_of-self-2-clause-count g c =
    let self = c.args.self.now in
    let bit : Bool = get_or c.as_slice.result.now self.number false in
    let less = c.if-self-len.false in
    let len = c.len.ensures in
    let here : slice_get self.ready self.number ≡ Some (get_or c.as_slice.result.now self.number false) =
    slice_get-get_or self.ready self.number false (omega (arith, less, len)) ∙ ap (λ (l : List Bool). Some (get_or l self.number false)) (sym c.as_slice.ensures) in
    count-next self.near.params (to_of self.reshaper) (g.F.TransferFeed.whole self.near.feed) self.near.gaps g.F.TransferFeed.rest self.near self.reshaper self.ready self.number self.at c.copy_offer-shows.result
    (get_or c.as_slice.result.now self.number false) here c.copy_offer-shows.new.into c.copy_offer-shows.ensures.offered self.done c.done_in.result self.count c.done_in.ensures.value
    ∙ sym (same-run (λ (p to : Parameters) (ts : List Transfer) (gaps : List ℕ). transfers_of (sides_of p to ts gaps (take (self.number + 1) self.ready)).far) self.near.params c.cross.new.near.params (to_of self.reshaper) (to_of c.cross.new.reshaper)
    (g.F.TransferFeed.whole self.near.feed) (g.F.TransferFeed.whole c.cross.new.near.feed) self.near.gaps c.cross.new.near.gaps c.cross.ensures.params c.cross.ensures.to c.cross.ensures.whole c.cross.ensures.gaps)

pub returns-clause-first : goal.returns-clause-first
returns-clause-first g c =
    let self = c.args.self.now in
    let less = c.if-self-len.false in
    let len = c.len.ensures in
    let here : slice_get self.ready self.number ≡ Some (get_or c.as_slice.result.now self.number false) =
    slice_get-get_or self.ready self.number false (omega (arith, less, len)) ∙ ap (λ (l : List Bool). Some (get_or l self.number false)) (sym c.as_slice.ensures) in
    turn-some self.near.params (to_of self.reshaper) (g.F.TransferFeed.whole self.near.feed) self.near.gaps g.F.TransferFeed.rest self.near self.reshaper self.ready self.number self.at c.copy_offer-shows.result
    (get_or c.as_slice.result.now self.number false) here c.copy_offer-shows.new.into c.copy_offer-shows.ensures.offered

pub returns-clause-rows : goal.returns-clause-rows
returns-clause-rows g c =
    let self = c.args.self.now in
    ap (drop (self.number + 1))
    (same-run (λ (p to : Parameters) (ts : List Transfer) (gaps : List ℕ). far_of p to ts gaps self.ready) self.near.params c.cross.new.near.params (to_of self.reshaper) (to_of c.cross.new.reshaper) (g.F.TransferFeed.whole self.near.feed)
    (g.F.TransferFeed.whole c.cross.new.near.feed) self.near.gaps c.cross.new.near.gaps c.cross.ensures.params c.cross.ensures.to c.cross.ensures.whole c.cross.ensures.gaps)
    ∙ sym (behind-drop (far_of self.near.params (to_of self.reshaper) (g.F.TransferFeed.whole self.near.feed) self.near.gaps self.ready) self.number)
