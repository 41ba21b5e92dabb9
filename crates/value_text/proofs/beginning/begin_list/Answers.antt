use Rattle.std.proofs.Common.{[], codes, refl, ap}
use Rattle.std.proofs.lemmas.Result.{on_ok_weaker}
use Rattle.logical_types.specs.declared.ltype.LType.{LType}
use Rattle.logical_types.specs.Tree.{plain}
use Rattle.logical_value.specs.Tree.{plain_values}
use Rattle.value_text.specs.Canonical.{element_text, nest_text, nests_text}
use Rattle.value_text.specs.Items.{items_of}
use Rattle.value_text.specs.Pending.{number_in}
use Rattle.value_text.proofs.PendingLemmas.{enclosed-begun}
use Rattle.value_text.proofs.beginning.begin_list.Goals as goal

pub returns : goal.returns
returns c =
    let members = plain_values (items_of c.args.members) in
    on_ok_weaker c.push-2.result (λ pushed. enclosed-begun (codes "[") (codes "]") (nests_text (nest_text (element_text (plain c.args.element.now)) c.args.depth) (codes ", ") [] members)
    (number_in members) _ _ c.args.left.now c.push.new.self c.push-2.new.self c.args.out.now c.emit.new.self refl refl
    (ap (λ (t : LType). nests_text (nest_text (element_text (plain t)) c.args.depth) (codes ", ") [] members) c.in_ok-try_clone.ensures) refl
    c.in_ok-emit.ensures.ok c.in_ok-push.ensures.ok pushed) c.push-2.ensures.ok
