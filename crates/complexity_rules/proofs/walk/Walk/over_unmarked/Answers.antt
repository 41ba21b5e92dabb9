use Rattle.std.proofs.Common.{◌∙◌, ◌+◌, ◌==◌, ℕ, cond, subst, ap}
use Rattle.physical_stream.specs.Items.{lane_items, parts_below}
use Rattle.complexity_rules.specs.Walk.{Finds}
use Rattle.complexity_rules.proofs.UnmarkedLemmas.{Finds-unmarked, no_elements, some_elements}
use Rattle.complexity_rules.proofs.walk.Walk.over_unmarked.Goals as goal

pub returns-then-elements-eq0-clause-found : goal.returns-then-elements-eq0-clause-found
returns-then-elements-eq0-clause-found c begins found =
    let p = c.args.p.now in
    let t = c.args.transfer.now in
    subst (Finds p.dims begins (parts_below (lane_items p t) c.args.to)) (no_elements p.dims _ c.active_between-elements.result c.args.self c.active_between-elements.ensures.lanes c.if-elements-eq0.true)
    (Finds-unmarked p t begins c.args.from c.args.to c.args.self c.requires.order c.requires.unmarked found)

pub returns-clause-found : goal.returns-clause-found
returns-clause-found c begins found =
    let p = c.args.p.now in
    let t = c.args.transfer.now in
    rw c.element.ensures
    (subst (Finds p.dims begins (parts_below (lane_items p t) c.args.to))
    (some_elements p.dims _ c.active_between-elements.result _ c.args.self c.active_between-elements.ensures.lanes c.if-elements-eq0.false
    (ap (λ (n : ℕ). c.args.self.packets + n) (c.packets_among.ensures.packets ∙ ap (λ (n : ℕ). cond (p.dims == 0) n 0) c.active_between-elements.ensures.lanes)))
    (Finds-unmarked p t begins c.args.from c.args.to c.args.self c.requires.order c.requires.unmarked found))
