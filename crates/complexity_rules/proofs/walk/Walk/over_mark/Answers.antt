use Rattle.std.proofs.Common.{◌∙◌, ◌+◌, ◌≤◌, ◌++◌, ◌∷◌, [], Bool, cond, if◌then◌else◌, sym, ap, subst, arith}
use Rattle.physical_stream.specs.Items.{last_bit}
use Rattle.physical_stream.specs.declared.item.Item.TheVariants as items
use Rattle.complexity_rules.specs.Walk.{Finds}
use Rattle.complexity_rules.specs.declared.walk.Walk.{Walk}
use Rattle.complexity_rules.proofs.WalkLemmas.{Finds-absent, Finds-chosen, Finds-there, chosen-few}
use Rattle.complexity_rules.proofs.walk.Walk.over_mark.Goals as goal

pub returns-then-p-eq1-clause-found : goal.returns-then-p-eq1-clause-found
returns-then-p-eq1-clause-found c begins over f =
    let closes = last_bit c.args.p.now c.args.transfer.now c.args.lane c.args.dim in
    subst (Finds c.args.p.now.dims begins (over ++ (if closes then items.Close c.args.dim ∷ [] else []))) (sym (c.chosen.ensures ∙ ap (λ (b : Bool). cond b c.over_close-closed.result c.args.self) c.is_last-marked.ensures))
    (Finds-chosen c.args.p.now.dims begins over _ closes c.over_close-closed.result c.args.self (c.over_close-closed.ensures.found begins over f) f)

pub returns-then-p-eq1-clause-few : goal.returns-then-p-eq1-clause-few
returns-then-p-eq1-clause-few c =
    subst (λ (walk : Walk). walk.packets ≤ c.args.self.packets + 1) (sym c.chosen.ensures) (chosen-few c.is_last-marked.result c.over_close-closed.result c.args.self _ c.over_close-closed.ensures.few (omega arith))

pub returns-then-marked-clause-found : goal.returns-then-marked-clause-found
returns-then-marked-clause-found c begins over f =
    Finds-there c.args.p.now.dims begins over _ _ c.over_close.result (sym c.is_last-marked.ensures ∙ c.if-marked.true) (c.over_close.ensures.found begins over f)

pub returns-else-marked-clause-found : goal.returns-else-marked-clause-found
returns-else-marked-clause-found c begins over f =
    Finds-absent c.args.p.now.dims begins over _ _ c.args.self (sym c.is_last-marked.ensures ∙ c.if-marked.false) f
