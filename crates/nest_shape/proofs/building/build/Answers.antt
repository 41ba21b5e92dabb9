use Rattle.std.proofs.Common.{take}
use Rattle.std.proofs.lemmas.Bool.{MatchBool-at_false}
use Rattle.nest_shape.proofs.BuildingLemmas.{BreaksNesting-at}
use Rattle.nest_shape.proofs.building.build.Goals as goal

pub returns-then-not-branch : goal.returns-then-not-branch
returns-then-not-branch c =
    let done = take c.items.number c.args.items.now in
    let told = MatchBool-at_false _ _ c.if-not-branch.true (c.in_ok-add.ensures.stands done c.items.invariant.stands) in
    BreaksNesting-at c.args.items.now c.items.number c.index-items-number.result c.items-test.true c.index-items-number.is told.0 c.items.invariant.stands.placed
