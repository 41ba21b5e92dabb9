use Rattle.std.proofs.Common.{arith}
use Rattle.logical_types.specs.Tree.{plain}
use Rattle.logical_value.specs.Tree as values
use Rattle.logical_value.specs.Tree.{Tree}
use Rattle.value_views.specs.Taking.{left}
use Rattle.value_views.proofs.SlotLemmas.{changed-slot, placed_nests-start, placed_nests-done, placed_nests-next}
use Rattle.value_views.proofs.TakingLemmas.{list_filled}
use Rattle.value_views.proofs.filling.Filling.+nests.Goals as goal

pub fill_nest-fill_nests-requires : goal.fill_nest-fill_nests-requires
fill_nest-fill_nests-requires t c = (omega (arith, c.decreases, c.if-depth-eq0.false), c.requires.few)

pub fill_nest-returns-in_ok-filled : goal.fill_nest-returns-in_ok-filled
fill_nest-returns-in_ok-filled t c = λ value more waits.
    list_filled (left c.args.self.now) (left c.fill_nests.new.self) c.args.number (plain c.args.ltype.now) c.args.depth (values.plain c.args.one) c.into_members-members.result
    c.in_ok-filled.filled value more (omega (arith, c.if-depth-eq0.false)) c.into_members-members.ensures c.in_ok-filled.ensures waits

pub fill_nests-ones-init : goal.fill_nests-ones-init
fill_nests-ones-init t c = λ some more waits. placed_nests-start (left c.args.self.now) c.args.number (plain c.args.ltype.now) c.args.depth c.args.ones some more waits

pub fill_nests-ones-preserved : goal.fill_nests-ones-preserved
fill_nests-ones-preserved t c = λ some more waits.
    let changed = changed-slot c.ones.filled c.take_at.new.ones c.put_at.new.ones c.ones.at c.in-Some.one _ c.in_ok-value.value c.in-Some.ensures.0 c.in-Some.ensures.1 c.in-Some.ensures.2 c.put_at.ensures in
    placed_nests-next (left c.args.self.now) (left c.ones.self) (left c.fill_nest.new.self) c.args.number (plain c.args.ltype.now) c.args.depth c.ones.filled c.put_at.new.ones c.ones.at c.in-Some.one
    c.in_ok-value.value some more changed c.in_ok-value.ensures (c.ones.invariant some more waits)

pub fill_nests-returns : goal.fill_nests-returns
fill_nests-returns t c = λ some more waits.
    let past = c.ones-test.false in
    let long = c.len.ensures in
    placed_nests-done (left c.args.self.now) (left c.ones.self) c.args.number (plain c.args.ltype.now) c.args.depth c.ones.filled c.ones.at some more (omega (arith, past, long)) (c.ones.invariant some more waits)
