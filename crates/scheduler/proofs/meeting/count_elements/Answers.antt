use Rattle.std.proofs.Common.{◌∙◌, ◌+◌, ℕ, drop, is_some, sym, ap}
use Rattle.scheduler.specs.Planned.{first_word}
use Rattle.scheduler.proofs.MeetLemmas.{counted-next}
use Rattle.scheduler.proofs.meeting.count_elements.Goals as goal

pub elements-preserved : goal.elements-preserved
elements-preserved c =
    counted-next c.args.items.now c.args.place c.elements.count c.elements.invariant
    (ap (λ (n : ℕ). is_some (first_word (drop (c.args.place + n) c.args.items.now))) (sym c.from.ensures) ∙ sym c.is_element.ensures ∙ (let e = c.if-not-is_element.false in cc))
