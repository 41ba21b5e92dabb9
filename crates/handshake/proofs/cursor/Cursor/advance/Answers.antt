use Rattle.std.proofs.Common.{◌∙◌, List, sym, ap, Some, false, true}
use Rattle.physical_stream.specs.Cycles.{Cycle}
use Rattle.physical_stream.specs.declared.transfer.Transfer.{Transfer}
use Rattle.handshake.specs.Kept.{Keeps}
use Rattle.handshake.proofs.cursor.Cursor.advance.Goals as goal
use Rattle.handshake.proofs.CursorLemmas.{shown-rests, shown-held, next-rests, next-held, Keeps-offered, with_bit}

pub returns-then-rests-clause-shown : goal.returns-then-rests-clause-shown
returns-then-rests-clause-shown g c = λ ts cycles kept.
    shown-rests _ _ ts _ _ cycles _ _ _ _ _ _ c.fill.ensures.params c.fill.ensures.gaps (c.fill.ensures.stands ts cycles kept) false c.fill.ensures.full (c.rests.ensures.yes c.if-rests.true)

pub returns-then-rests-clause-stands : goal.returns-then-rests-clause-stands
returns-then-rests-clause-stands g c = λ ts cycles kept.
    next-rests _ _ ts _ _ cycles _ _ _ _ _ _ c.fill.ensures.params c.fill.ensures.gaps (c.fill.ensures.stands ts cycles kept) c.args.ready
    (λ (l : List Cycle). Keeps c.wait.new.self.params ts c.wait.new.self.gaps l (g.F.TransferFeed.rest c.wait.new.self.feed) c.wait.new.self.holds c.wait.new.self.held c.wait.new.self.pause c.wait.new.self.place c.wait.new.self.tail)
    c.fill.ensures.full (c.rests.ensures.yes c.if-rests.true) (c.wait.ensures.stands ts cycles c.args.ready (c.fill.ensures.stands ts cycles kept) c.fill.ensures.full)

pub returns-then-ready-clause-shown : goal.returns-then-ready-clause-shown
returns-then-ready-clause-shown g c = λ ts cycles kept.
    let facts = c.rests.ensures.no c.if-rests.false in
    shown-held _ _ ts _ _ cycles _ _ _ _ _ _ c.fill.ensures.params c.fill.ensures.gaps (c.fill.ensures.stands ts cycles kept) true facts.0 facts.1
    ∙ ap (λ (t : Transfer). Some t) (sym c.take.ensures.held)

pub returns-then-ready-clause-stands : goal.returns-then-ready-clause-stands
returns-then-ready-clause-stands g c = λ ts cycles kept.
    let facts = c.rests.ensures.no c.if-rests.false in
    let filled = c.fill.ensures.stands ts cycles kept in
    next-held _ _ ts _ _ cycles _ _ _ _ _ _ c.fill.ensures.params c.fill.ensures.gaps filled c.args.ready
    (λ (l : List Cycle). Keeps c.take.new.self.params ts c.take.new.self.gaps l (g.F.TransferFeed.rest c.take.new.self.feed) c.take.new.self.holds c.take.new.self.held c.take.new.self.pause c.take.new.self.place c.take.new.self.tail)
    facts.0 facts.1
    (with_bit
    (λ (l : List Cycle). Keeps c.take.new.self.params ts c.take.new.self.gaps l (g.F.TransferFeed.rest c.take.new.self.feed) c.take.new.self.holds c.take.new.self.held c.take.new.self.pause c.take.new.self.place c.take.new.self.tail)
    cycles c.args.ready true c.fill.new.self.held c.if-ready.true (c.take.ensures.stands ts cycles filled))

pub returns-clause-shown : goal.returns-clause-shown
returns-clause-shown g c = λ ts cycles kept.
    let facts = c.rests.ensures.no c.if-rests.false in
    shown-held _ _ ts _ _ cycles _ _ _ _ _ _ c.fill.ensures.params c.fill.ensures.gaps (c.fill.ensures.stands ts cycles kept) true facts.0 facts.1

pub returns-clause-stands : goal.returns-clause-stands
returns-clause-stands g c = λ ts cycles kept.
    let facts = c.rests.ensures.no c.if-rests.false in
    let filled = c.fill.ensures.stands ts cycles kept in
    next-held _ _ ts _ _ cycles _ _ _ _ _ _ c.fill.ensures.params c.fill.ensures.gaps filled c.args.ready
    (λ (l : List Cycle). Keeps c.fill.new.self.params ts c.fill.new.self.gaps l (g.F.TransferFeed.rest c.fill.new.self.feed) c.fill.new.self.holds c.fill.new.self.held c.fill.new.self.pause c.fill.new.self.place c.fill.new.self.tail)
    facts.0 facts.1
    (with_bit
    (λ (l : List Cycle). Keeps c.fill.new.self.params ts c.fill.new.self.gaps l (g.F.TransferFeed.rest c.fill.new.self.feed) c.fill.new.self.holds c.fill.new.self.held c.fill.new.self.pause c.fill.new.self.place c.fill.new.self.tail)
    cycles c.args.ready false c.fill.new.self.held c.if-ready.false (Keeps-offered _ ts _ cycles _ _ _ _ _ _ facts.0 facts.1 filled))
