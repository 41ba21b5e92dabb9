use Rattle.std.proofs.Common.{◌∙◌, sym, ap}
use Rattle.tydi_base.specs.Numbers.{word_of_number}
use Rattle.value_gen.specs.Draws.{draw_after}
use Rattle.value_gen.proofs.MadeLemmas.{drawn-small, word-so}
use Rattle.value_gen.proofs.drawing.Drawing.part.Goals as goal

pub returns-in-Some : goal.returns-in-Some
returns-in-Some c =
    let wide = c.from.ensures ∙ c.draw-draw.ensures.value in
    let made = sym (ap (word_of_number 16) wide) ∙ sym c.in_ok-bits.ensures ∙ c.in-Some.is in
    let bits = word-so (draw_after c.args.self.now.last) c.in-Some.bits (drawn-small c.args.self.now.last) made in
    let last = c.draw-draw.ensures.last ∙ c.draw-draw.ensures.value in
    cc
