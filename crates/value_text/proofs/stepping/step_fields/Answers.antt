use Rattle.std.proofs.Common.{◌≡◌, ◌+◌, ◌<◌, ◌≤◌, List, length, codes, drop, get_or, refl, ap, subst}
use Rattle.std.proofs.lemmas.Result.{on_ok_weaker}
use Rattle.logical_types.specs.declared.ltype.Part.{Part}
use Rattle.logical_types.specs.Tree.{plain_parts}
use Rattle.logical_value.specs.Tree.{plain_values}
use Rattle.value_text.specs.Canonical.{fields_text}
use Rattle.value_text.specs.Items.{item_of, items_of}
use Rattle.value_text.proofs.PendingLemmas.{fields-begun, no_fields-begun, no_parts-begun}
use Rattle.value_text.proofs.stepping.step_fields.Goals as goal

pub returns-in-Some-take : goal.returns-in-Some-take
returns-in-Some-take c =
    let fields = c.args.fields in
    let more = items_of c.in-Some-take.field-0.more in
    let within : fields.at < length fields.parts = subst (λ (ps : List Part). fields.at < length ps) c.as_slice.ensures c.in-Some.ensures.lookup.3.0 in
    let is : c.in-Some.part.now ≡ get_or fields.parts fields.at c.in-Some.part.now =
    subst (λ (ps : List Part). c.in-Some.part.now ≡ get_or ps fields.at c.in-Some.part.now) c.as_slice.ensures c.in-Some.ensures.lookup.1 in
    on_ok_weaker c.begin_element.result
    (fields-begun fields.parts fields.at c.in-Some.part.now fields.before.now (items_of fields.values) more (item_of c.in-Some-take.field-0.one) _
    c.args.left.now c.push.new.self c.begin_element.new.left c.args.out.now c.emit.new.self c.begin_element.new.out within is c.in-Some-take.ensures
    (ap (λ (ps : List Part). fields_text (codes ", ") (plain_parts (drop (fields.at + 1) ps)) (plain_values more)) c.in_ok-try_clone-in-Some-take.ensures) refl
    c.in_ok-emit-in-Some-take.ensures.ok c.in_ok-push-in-Some-take.ensures.ok) c.begin_element.ensures

pub returns-in-Some : goal.returns-in-Some
returns-in-Some c =
    no_fields-begun c.args.fields.before.now (plain_parts (drop c.args.fields.at c.args.fields.parts)) (items_of c.args.fields.values) c.args.left.now c.args.out.now c.in-None-take.ensures

pub returns : goal.returns
returns c =
    no_parts-begun c.args.fields.before.now c.args.fields.parts c.args.fields.at (items_of c.args.fields.values) c.args.left.now c.args.out.now
    (subst (λ (ps : List Part). length ps ≤ c.args.fields.at) c.as_slice.ensures c.in-None.ensures.lookup.3)
