use Rattle.std.proofs.Common.{◌∙◌, ap, ◌+◌, cond, Bool, ◌||◌}
use Rattle.complexity_rules.proofs.WalkLemmas.{Finds-close}
use Rattle.complexity_rules.proofs.walk.Walk.over_close.Goals as goal

pub returns-clause-found : goal.returns-clause-found
returns-clause-found c begins over f =
    rw c.close.ensures
    (Finds-close c.args.p.now.dims begins over c.args.dim c.args.self _ _ _ c.first_of_two.ensures
    (c.either.ensures ∙ ap (λ (b : Bool). c.args.self.misplaced || b) c.is_misplaced.ensures)
    (ap (λ n. c.args.self.packets + n) (c.counted.ensures ∙ ap (λ (b : Bool). cond b 1 0) c.is_outermost.ensures)) f)
