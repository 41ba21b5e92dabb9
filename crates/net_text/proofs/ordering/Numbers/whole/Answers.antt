use Rattle.std.proofs.Common.{◌∙◌, Bool, cond, Some, None, ap, sym}
use Rattle.std.specs.List.{list_all}
use Rattle.net_text.proofs.OrderLemmas.{all-marked}
use Rattle.net_text.proofs.ordering.Numbers.whole.Goals as goal

-- src/ordering.rt:91:5
pub returns-then-are_all : goal.returns-then-are_all
returns-then-are_all c = λ count m.
    let order = c.args.self.order in
    ap (λ (b : Bool). cond b (Some order) None) (sym c.if-are_all.true ∙ c.are_all.ensures ∙ ap (list_all (λ mark. mark)) c.as_slice.ensures.value ∙ all-marked count order c.args.self.seen.items m)

-- src/ordering.rt:91:5
pub returns-else-are_all : goal.returns-else-are_all
returns-else-are_all c = λ count m.
    let order = c.args.self.order in
    ap (λ (b : Bool). cond b (Some order) None) (sym c.if-are_all.false ∙ c.are_all.ensures ∙ ap (list_all (λ mark. mark)) c.as_slice.ensures.value ∙ all-marked count order c.args.self.seen.items m)
