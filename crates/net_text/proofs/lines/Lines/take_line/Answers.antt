use Rattle.std.proofs.Common.{◌∙◌, ◌∷◌, ap, sym, true}
use Rattle.tydi_base.specs.Pieces.{lines_of}
use Rattle.tydi_base.specs.Places.{place_after}
use Rattle.net_text.specs.Lines.{placed}
use Rattle.net_text.specs.LinesView.{lines_at}
use Rattle.net_text.proofs.LineLemmas.{pieces-some, placed-first}
use Rattle.net_text.proofs.lines.Lines.take_line.Goals as goal

pub returns-in-Some : goal.returns-in-Some
returns-in-Some c =
    sym c.self.view_is ∙ ap (lines_at c.self.inside.place) c.in_ok-text.was ∙ ap (placed c.self.inside.place) c.in-Some.ensures.some
    ∙ placed-first c.self.inside.place c.in-Some.bytes.now (lines_of c.in-Some.after.now) (pieces-some 10 c.in-Some.after.now)
    ∙ ap (λ place. record { place = c.self.inside.place; bytes = c.in-Some.bytes.now; ended = true } ∷ placed place (lines_of c.in-Some.after.now)) (sym (c.after.ensures ∙ ap (λ place. place_after place 10) c.along.ensures))
