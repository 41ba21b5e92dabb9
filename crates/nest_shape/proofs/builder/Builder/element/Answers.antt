use Rattle.std.proofs.Common.{arith}
use Rattle.std.proofs.lemmas.Result.{on_ok_weaker}
use Rattle.nest_shape.proofs.BuildingLemmas.{Keeps-at, Keeps-element}
use Rattle.nest_shape.proofs.builder.Builder.element.Goals as goal

pub returns-clause-stands : goal.returns-clause-stands
returns-clause-stands c = λ done stands.
    let dims = c.args.self.now.dims in
    let new = c.add_member.new.self in
    on_ok_weaker c.add_member.result
    (λ adds. Keeps-at new.dims new.level dims 0 new.begun _ c.add_member.ensures.dims c.add_member.ensures.level
    (Keeps-element dims c.args.self.now.level c.args.self.now.begun new.begun done c.args.word stands (λ falls deep. adds dims (omega arith) falls deep)))
    c.add_member.ensures.added
