use Rattle.std.proofs.Common.{arith, sym, subst}
use Rattle.std.proofs.lemmas.Result.{on_ok_weaker}
use Rattle.std.proofs.Common.{◌≡◌, ◌∷◌, [], ◌++◌, map}
use Rattle.logical_types.specs.Tree as types
use Rattle.nest_shape.specs.Tree as nests
use Rattle.value_views.specs.Way.{CanGather, gathered}
use Rattle.value_views.specs.declared.way.Step.{Step}
use Rattle.logical_value.specs.Tree.{plain}
use Rattle.logical_value.proofs.FitLemmas.{value_size}
use Rattle.value_views.proofs.GatherLemmas.{added-all, added-list, added-members, added-more, added-nothing, gathers-members, gathers-one, gathers-part, members-size, part-size}
use Rattle.value_views.proofs.gathering.Gathering.+gather.Goals as goal

pub gather-gather_value-requires : goal.gather-gather_value-requires
gather-gather_value-requires t c =
    let size = value_size c.args.values.now c.values.value-index c.value-item.result c.values-test.true c.value-item.is in (
      omega (arith, size, c.decreases),
      gathers-one (types.plain c.args.self.now.element.now) c.args.way.now c.args.depth c.args.values.now c.values.value-index c.value-item.result c.values-test.true c.value-item.is c.requires,
    )

pub gather-returns : goal.gather-returns
gather-returns t c =
    added-all (types.plain c.args.self.now.element.now) c.args.way.now c.args.depth c.args.values.now c.values.value-index c.args.nests.now c.values.nests c.values-test.false c.values.invariant

pub gather-values-preserved : goal.gather-values-preserved
gather-values-preserved t c =
    added-more (types.plain c.args.self.now.element.now) c.args.way.now c.args.depth c.args.values.now c.values.value-index c.value-item.result c.args.nests.now c.values.nests
    c.gather_value.new.nests c.values-test.true c.value-item.is c.values.invariant c.in_ok-gather_value.ensures

pub gather_along-gather_leaf-requires : goal.gather_along-gather_leaf-requires
gather_along-gather_leaf-requires t c =
    let element = types.plain c.args.self.now.element.now in
    let value = plain c.args.value.now in
    let size = part-size c.in-Part.number value (plain c.in-Some.part.now) c.in-Some.ensures in (
      omega (arith, size, c.decreases),
      gathers-part element c.in-Part.number c.args.more.now value (plain c.in-Some.part.now) c.in-Some.ensures
          (subst (λ (step : Step). CanGather element (step ∷ c.args.more.now) 0 value) c.in-Part.is c.requires),
    )

pub gather_along-returns-in-None : goal.gather_along-returns-in-None
gather_along-returns-in-None t c =
    let element = types.plain c.args.self.now.element.now in
    let value = plain c.args.value.now in
    subst (λ (step : Step). map nests.plain c.args.nests.now ≡ map nests.plain c.args.nests.now ++ gathered element (step ∷ c.args.more.now) 0 (value ∷ [])) (sym c.in-Part.is)
    (added-nothing element c.in-Part.number c.args.more.now value c.args.nests.now c.in-None.ensures)

pub gather_members-gather-requires : goal.gather_members-gather-requires
gather_members-gather-requires t c =
    let values = c.members_of-members.result.now in
    let size = members-size (plain c.args.value.now) values c.members_of-members.ensures in (
      omega (arith, size, c.decreases),
      gathers-members (types.plain c.args.self.now.element.now) c.args.way.now c.args.depth (plain c.args.value.now) (map plain values) c.members_of-members.ensures c.requires,
    )

pub gather_members-gather-requires-else-keeps_lists : goal.gather_members-gather-requires-else-keeps_lists
gather_members-gather-requires-else-keeps_lists t c =
    let values = c.members_of-members.result.now in
    let size = members-size (plain c.args.value.now) values c.members_of-members.ensures in (
      omega (arith, size, c.decreases),
      gathers-members (types.plain c.args.self.now.element.now) c.args.way.now c.args.depth (plain c.args.value.now) (map plain values) c.members_of-members.ensures c.requires,
    )

pub gather_members-returns-in_ok-gather : goal.gather_members-returns-in_ok-gather
gather_members-returns-in_ok-gather t c =
    on_ok_weaker c.push.result
    (λ pushed. added-list (types.plain c.args.self.now.element.now) c.args.way.now c.args.depth (plain c.args.value.now) (map plain c.members_of-members.result.now) c.keeps_lists.result
    c.in_ok-parts.parts c.gather.new.nests c.args.nests.now c.push.new.self c.keeps_lists.ensures c.if-keeps_lists.true c.in_ok-parts.ensures c.members_of-members.ensures
    c.in_ok-gather.ensures pushed)
    c.push.ensures.ok

pub gather_members-returns-else-keeps_lists : goal.gather_members-returns-else-keeps_lists
gather_members-returns-else-keeps_lists t c =
    on_ok_weaker c.gather-else-keeps_lists.result
    (λ gathers. added-members (types.plain c.args.self.now.element.now) c.args.way.now c.args.depth (plain c.args.value.now) (map plain c.members_of-members.result.now) c.keeps_lists.result
    c.args.nests.now c.gather-else-keeps_lists.new.nests c.keeps_lists.ensures c.if-keeps_lists.false c.members_of-members.ensures gathers)
    c.gather-else-keeps_lists.ensures
