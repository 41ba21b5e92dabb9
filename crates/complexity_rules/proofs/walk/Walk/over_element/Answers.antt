use Rattle.std.proofs.Common.{◌∙◌, ap, ◌+◌, ◌==◌, cond}
use Rattle.physical_stream.specs.Params.{Parameters}
use Rattle.complexity_rules.proofs.WalkLemmas.{Finds-element}
use Rattle.complexity_rules.proofs.walk.Walk.over_element.Goals as goal

pub returns-clause-found : goal.returns-clause-found
returns-clause-found c begins over word f =
    rw c.element.ensures
    (Finds-element c.args.p.now.dims begins over word c.args.self _
    (ap (λ n. c.args.self.packets + n) (c.counted.ensures ∙ ap (λ (p : Parameters). cond (p.dims == 0) 1 0) c.p.view_is)) f)
