use Rattle.std.proofs.lemmas.Result.{on_ok_weaker}
use Rattle.logical_types.specs.Tree.{bits}
use Rattle.logical_value.specs.Tree.{plain}
use Rattle.value_text.specs.Canonical.{element_text}
use Rattle.value_text.specs.Inside.{tree_of}
use Rattle.value_text.specs.Items.{item_of}
use Rattle.value_text.proofs.PendingLemmas.{no-word, nothing-begun, word-begun}
use Rattle.value_text.proofs.beginning.begin_word.Goals as goal

pub returns-in-Word : goal.returns-in-Word
returns-in-Word c = on_ok_weaker c.emit.result
    (word-begun c.args._width c.get.result.now (item_of c.in-Word.word) (plain (item_of c.args.value)) c.args._left.now c.args.out.now c.emit.new.self c.get.ensures c.in-Word.ensures) c.emit.ensures.ok

pub returns : goal.returns
returns c = nothing-begun (element_text (bits c.args._width)) (tree_of c.look_inside.result) (plain (item_of c.args.value)) c.args._left.now c.args.out.now c.look_inside.ensures
    (no-word c.args._width c.look_inside.result c.in_default.not-Word)
