use Rattle.std.proofs.Common.{List, [], codes, refl, ap}
use Rattle.std.proofs.lemmas.Result.{on_ok_weaker}
use Rattle.logical_types.specs.declared.ltype.Part.{Part}
use Rattle.logical_types.specs.Tree.{plain_parts}
use Rattle.logical_value.specs.Tree.{plain_values}
use Rattle.value_text.specs.Canonical.{fields_text}
use Rattle.value_text.specs.Items.{items_of}
use Rattle.value_text.specs.Pending.{number_in}
use Rattle.value_text.proofs.PendingLemmas.{enclosed-begun}
use Rattle.value_text.proofs.beginning.begin_fields.Goals as goal

pub returns : goal.returns
returns c =
    let fields = plain_values (items_of c.args.fields) in
    on_ok_weaker c.push-2.result (λ pushed. enclosed-begun (codes "{") (codes "}") (fields_text [] (plain_parts c.args.parts.now) fields)
    (number_in fields) _ _ c.args.left.now c.push.new.self c.push-2.new.self c.args.out.now c.emit.new.self refl refl
    (ap (λ (ps : List Part). fields_text [] (plain_parts ps) fields) c.in_ok-try_clone.ensures) refl
    c.in_ok-emit.ensures.ok c.in_ok-push.ensures.ok pushed) c.push-2.ensures.ok
