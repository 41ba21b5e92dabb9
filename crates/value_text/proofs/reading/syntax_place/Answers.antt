use Rattle.std.proofs.Common.{ℕ, ◌-◌, ◌∙◌, ap}
use Rattle.value_text.specs.Port.{place_at}
use Rattle.value_text.proofs.reading.syntax_place.Goals as goal

pub returns : goal.returns
returns c = c.place_at.ensures ∙ ap (λ (k : ℕ). place_at c.args.text.now k) (c.saturating_sub.ensures ∙ ap (λ (k : ℕ). c.args.left - k) c.in_ok-further.ensures)
