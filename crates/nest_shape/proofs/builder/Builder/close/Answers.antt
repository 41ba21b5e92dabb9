use Rattle.std.proofs.Common.{◌+◌, ◌∙◌, refl, arith}
use Rattle.std.proofs.lemmas.Result.{on_ok_weaker}
use Rattle.nest_shape.proofs.BuildingLemmas.{Keeps-at, Keeps-close}
use Rattle.nest_shape.proofs.builder.Builder.close.Goals as goal

pub returns-clause-stands : goal.returns-clause-stands
returns-clause-stands c = λ done stands.
    let dims = c.args.self.now.dims in
    let begun = c.args.self.now.begun in
    let taken = c.take_members-parts.new.self.begun in
    let new = c.add_member.new.self in
    on_ok_weaker c.add_member.result
    (λ adds. Keeps-at new.dims new.level dims (c.args.dim + 1) new.begun _ (c.add_member.ensures.dims ∙ c.take_members-parts.ensures.dims) c.add_member.ensures.level
    (Keeps-close dims c.args.self.now.level c.args.dim (c.args.dim + 1) begun taken new.begun c.take_members-parts.result done stands c.requires.within c.requires.placed refl
    (λ falls. c.take_members-parts.ensures.taken dims (omega (arith, c.requires.within)) falls)
    (λ falls deep. adds dims (omega (arith, c.requires.within)) falls deep)))
    c.add_member.ensures.added
