use Rattle.std.proofs.Common.{refl, ap}
use Rattle.std.proofs.lemmas.Result.{on_ok_weaker}
use Rattle.logical_types.specs.declared.ltype.LType.{LType}
use Rattle.logical_types.specs.Tree.{plain}
use Rattle.logical_value.specs.Tree.{plain_values}
use Rattle.value_text.specs.Canonical.{element_text, nest_text, nests_text}
use Rattle.value_text.specs.Items.{item_of, items_of}
use Rattle.value_text.proofs.PendingLemmas.{nests-begun, no_nests-begun}
use Rattle.value_text.proofs.stepping.step_nests.Goals as goal

pub returns-in-Some : goal.returns-in-Some
returns-in-Some c =
    let nests = c.args.nests in
    let more = items_of c.in-Some.field-0.more in
    on_ok_weaker c.begin_nest.result
    (nests-begun (nest_text (element_text (plain nests.element)) nests.depth) nests.between.now nests.before.now (items_of nests.values) more (item_of c.in-Some.field-0.one) _
    c.args.left.now c.push.new.self c.begin_nest.new.left c.args.out.now c.emit.new.self c.begin_nest.new.out c.in-Some.ensures
    (ap (λ (t : LType). nests_text (nest_text (element_text (plain t)) nests.depth) nests.between.now nests.between.now (plain_values more)) c.in_ok-try_clone-in-Some.ensures) refl
    c.in_ok-emit-in-Some.ensures.ok c.in_ok-push-in-Some.ensures.ok) c.begin_nest.ensures

pub returns : goal.returns
returns c =
    let nests = c.args.nests in
    no_nests-begun (nest_text (element_text (plain nests.element)) nests.depth) nests.between.now nests.before.now (items_of nests.values) c.args.left.now c.args.out.now c.in-None.ensures
