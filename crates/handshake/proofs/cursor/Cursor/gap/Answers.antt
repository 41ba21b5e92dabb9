use Rattle.std.proofs.Common.{◌∙◌, ap, List, ℕ, slice_index}
use Rattle.handshake.proofs.cursor.Cursor.gap.Goals as goal
use Rattle.handshake.proofs.CursorLemmas.{gap-yes, gap-no}

pub returns-then-may_pause : goal.returns-then-may_pause
returns-then-may_pause g c =
    gap-yes c.args.self.now.params c.args.self.now.gaps c.args.self.now.place c.args.self.now.tail _ _ c.may_pause.ensures.pauses c.if-may_pause.true
    (c.gap_in.ensures ∙ ap (λ (l : List ℕ). slice_index l c.args.self.now.place) c.as_slice.ensures)

pub returns-else-may_pause : goal.returns-else-may_pause
returns-else-may_pause g c = gap-no c.args.self.now.params c.args.self.now.gaps c.args.self.now.place c.args.self.now.tail _ c.may_pause.ensures.pauses c.if-may_pause.false
