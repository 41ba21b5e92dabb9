use Rattle.std.proofs.Common.{◌∙◌, ℕ, refl, sym, subst}
use Rattle.scheduler.specs.Meeting.{Allows, IsPackedWay}
use Rattle.scheduler.proofs.MeetLemmas.{meets-empty, meets-laned, meets-packed}
use Rattle.scheduler.proofs.meeting.way_of.Goals as goal

pub returns-then-is_empty_wish : goal.returns-then-is_empty_wish
returns-then-is_empty_wish c =
    meets-empty c.args.p.now c.requires.some c.args.wish c.args.items.now c.args.place c.requires.place _ (sym c.is_empty_wish.ensures ∙ c.if-is_empty_wish.true) refl refl refl

pub returns-then-is_laned : goal.returns-then-is_laned
returns-then-is_laned c =
    meets-laned c.args.p.now c.requires.some c.args.wish c.args.items.now c.args.place c.requires.place _
    (sym c.is_empty_wish.ensures ∙ c.if-is_empty_wish.false) (subst (λ (m : ℕ). Allows c.args.p.now m c.allowed_lanes-allowed.result) c.mask_of.ensures c.allowed_lanes-allowed.ensures)
    (sym c.is_laned.ensures ∙ c.if-is_laned.true) refl refl refl

pub returns : goal.returns
returns c =
    meets-packed c.args.p.now c.requires.some c.args.wish c.args.items.now c.args.place c.requires.place c.packed_way.result
    (sym c.is_empty_wish.ensures ∙ c.if-is_empty_wish.false)
    (subst (λ (m : ℕ). Allows c.args.p.now m c.packed_way.result.allowed) c.mask_of.ensures (subst (λ (a : ℕ). Allows c.args.p.now c.mask_of.result a) (sym c.packed_way.ensures.allowed) c.allowed_lanes-allowed.ensures))
    (sym c.is_laned.ensures ∙ c.if-is_laned.false)
    (subst (λ (a : ℕ). IsPackedWay c.args.p.now c.args.wish a c.args.items.now c.args.place c.packed_way.result) (sym c.packed_way.ensures.allowed) c.packed_way.ensures)
