use Rattle.std.proofs.Common.{◌∙◌, ◌++◌, List, ℕ, ap, arith}
use Rattle.std.proofs.lemmas.Result.{on_ok_weaker}
use Rattle.value_text.specs.declared.pending.Pending.TheVariants as parts
use Rattle.value_text.proofs.PendingLemmas.{begun-whole, part-begun}
use Rattle.value_text.proofs.stepping.step.Goals as goal

pub returns-in-Mark : goal.returns-in-Mark
returns-in-Mark c =
    on_ok_weaker c.emit.result (λ written. part-begun (parts.Mark c.in-Mark.text) c.args.part c.args.left.now c.args.left.now c.args.out.now c.emit.new.self c.in-Mark.is
    (begun-whole c.in-Mark.text.now 1 c.args.left.now c.args.out.now c.emit.new.self written (omega arith))) c.emit.ensures.ok

pub returns-in-Line : goal.returns-in-Line
returns-in-Line c =
    on_ok_weaker c.emit-in-Line.result (λ written. part-begun (parts.Line c.in-Line.text) c.args.part c.args.left.now c.args.left.now c.args.out.now c.emit-in-Line.new.self c.in-Line.is
    (begun-whole c.in-Line.text 1 c.args.left.now c.args.out.now c.emit-in-Line.new.self (written ∙ ap (λ (l : List ℕ). c.args.out.now ++ l) c.as_slice.ensures) (omega arith))) c.emit-in-Line.ensures.ok
