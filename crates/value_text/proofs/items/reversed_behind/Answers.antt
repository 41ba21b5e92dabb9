use Rattle.std.proofs.Common.{◌∙◌, ◌-◌, ℕ, ap}
use Rattle.value_text.proofs.ItemLemmas.{behind-reversed}
use Rattle.value_text.proofs.items.reversed_behind.Goals as goal

pub returns : goal.returns
returns t c =
    behind-reversed c.args.list c.reversed-elements.result c.truncate.new.self c.args.passed c.saturating_sub-count.result c.reversed-elements.ensures
    (c.saturating_sub-count.ensures ∙ ap (λ (n : ℕ). n - c.args.passed) c.len.ensures) c.truncate.ensures
