use Rattle.std.proofs.Common.{◌≡◌, ◌+◌, ◌-◌, ◌∙◌, Bool, IsTrue, is_some, ◌↔◌, ap, sym, subst, arith}
use Rattle.physical_stream.specs.Params.{Parameters}
use Rattle.physical_stream.specs.Breaks.{BreaksLaneLast}
use Rattle.complexity_rules.proofs.WalkLemmas.{Finds-all}
use Rattle.complexity_rules.proofs.LaneLemmas.{BreaksLaneLast-early}
use Rattle.complexity_rules.proofs.walk.walk_over_marked.Goals as goal

pub returns-clause-found : goal.returns-clause-found
returns-clause-found c =
    let same : c.p.inside.lanes ≡ c.args.p.now.lanes = ap (λ (p : Parameters). p.lanes) c.p.view_is in
    let next : c.p.inside.lanes - 1 + 1 ≡ c.args.p.now.lanes = omega (arith, c.p.invariant.some_lane) in
    Finds-all c.args.p.now c.args.transfer.now c.args.tail _ c.over_lane.result next
    (c.over_lane.ensures.found c.args.tail _ (c.over_lanes-before.ensures.found c.args.tail (c.after.ensures.found c.args.p.now.dims)))

pub returns-clause-early : goal.returns-clause-early
returns-clause-early c =
    let same : c.p.inside.lanes ≡ c.args.p.now.lanes = ap (λ (p : Parameters). p.lanes) c.p.view_is in
    let next : c.p.inside.lanes - 1 + 1 ≡ c.args.p.now.lanes = omega (arith, c.p.invariant.some_lane) in
    let first = (c.over_lanes-before.ensures.found c.args.tail (c.after.ensures.found c.args.p.now.dims)).first in
    subst (λ (b : Bool). IsTrue b ↔ BreaksLaneLast c.args.p.now c.args.transfer.now) (sym (c.is_some.ensures ∙ ap is_some first))
    (BreaksLaneLast-early c.args.p.now c.args.transfer.now _ next)
