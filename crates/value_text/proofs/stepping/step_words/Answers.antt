use Rattle.std.proofs.Common.{refl}
use Rattle.std.proofs.lemmas.Result.{on_ok_weaker}
use Rattle.value_text.specs.Items.{item_of, items_of}
use Rattle.value_text.proofs.PendingLemmas.{no_words-begun, words-begun}
use Rattle.value_text.proofs.stepping.step_words.Goals as goal

pub returns-in_ok-emit-in-Some : goal.returns-in_ok-emit-in-Some
returns-in_ok-emit-in-Some c =
    let more = items_of c.in-Some.field-0.more in
    on_ok_weaker c.push.result
    (words-begun (items_of c.args.words) more (item_of c.in-Some.field-0.one) c.get.result.now _ c.args.left.now c.push.new.self c.args.out.now c.emit.new.self c.in-Some.ensures
    c.get.ensures refl refl c.in_ok-emit-in-Some.ensures.ok) c.push.ensures.ok

pub returns-in-None : goal.returns-in-None
returns-in-None c = no_words-begun (items_of c.args.words) c.args.left.now c.args.out.now c.in-None.ensures
