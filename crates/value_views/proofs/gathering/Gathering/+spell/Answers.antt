use Rattle.std.proofs.Common.{[], map, arith}
use Rattle.std.proofs.lemmas.Result.{on_ok_weaker}
use Rattle.logical_types.specs.Tree as types
use Rattle.logical_value.specs.Tree.{plain}
use Rattle.logical_value.proofs.FitLemmas.{value_size}
use Rattle.value_views.proofs.GatherLemmas.{gathers-members, gathers-one, members-size}
use Rattle.value_views.proofs.SpellLemmas.{spelled-all, spelled-list, spelled-more}
use Rattle.value_views.proofs.gathering.Gathering.+spell.Goals as goal

pub spell-spell_value-requires : goal.spell-spell_value-requires
spell-spell_value-requires t c =
    let size = value_size c.args.values.now c.values.value-index c.value-item.result c.values-test.true c.value-item.is in (
      omega (arith, size, c.decreases),
      gathers-one (types.plain c.args.self.now.element.now) [] c.args.depth c.args.values.now c.values.value-index c.value-item.result c.values-test.true c.value-item.is c.requires,
    )

pub spell-returns : goal.spell-returns
spell-returns t c = spelled-all (types.plain c.args.self.now.element.now) c.args.depth c.args.values.now c.values.value-index c.args.items.now c.values.items c.values-test.false c.values.invariant

pub spell-values-preserved : goal.spell-values-preserved
spell-values-preserved t c =
    spelled-more (types.plain c.args.self.now.element.now) c.args.depth c.args.values.now c.values.value-index c.value-item.result c.args.items.now c.values.items
    c.spell_value.new.items c.values-test.true c.value-item.is c.values.invariant c.in_ok-spell_value.ensures

pub spell_list-spell-requires : goal.spell_list-spell-requires
spell_list-spell-requires t c =
    let values = c.members_of.result.now in
    let size = members-size (plain c.args.value.now) values c.members_of.ensures in (
      omega (arith, size, c.decreases),
      gathers-members (types.plain c.args.self.now.element.now) [] c.args.depth (plain c.args.value.now) (map plain values) c.members_of.ensures c.requires,
    )

pub spell_list-returns : goal.spell_list-returns
spell_list-returns t c =
    on_ok_weaker c.push.result
    (λ pushed. spelled-list (types.plain c.args.self.now.element.now) c.args.depth (plain c.args.value.now) (map plain c.members_of.result.now) c.args.items.now c.spell.new.items c.push.new.self
    c.members_of.ensures c.in_ok-spell.ensures pushed)
    c.push.ensures.ok
