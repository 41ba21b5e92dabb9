use Rattle.std.proofs.Common.{refl}
use Rattle.std.proofs.lemmas.Result.{on_ok_weaker}
use Rattle.logical_types.specs.Tree as types
use Rattle.value_text.specs.Canonical.{element_text, nest_text}
use Rattle.value_text.specs.Items.{items_of}
use Rattle.value_text.proofs.RunLemmas.{first-of, run-begun, run-ended}
use Rattle.value_text.proofs.runs.step_leaves.Goals as goal

pub returns-then-is_empty : goal.returns-then-is_empty
returns-then-is_empty c =
    let nests = c.args.nests in
    let begins = first-of (items_of nests.values) (items_of c.skip.result) c.in-Some.one.now c.in-Some.ensures.found c.skip.ensures in
    run-ended (nest_text (element_text (types.plain nests.element)) nests.depth) nests.between.now nests.before.now (items_of nests.values) (items_of c.skip.result)
    (items_of c.in_ok-rest-in-Some.rest) c.in-Some.one.now c.args.out.now c.emit.new.self c.write_leaves.new.out c.requires begins c.in_ok-emit-in-Some.ensures.ok
    c.in_ok-rest-in-Some.ensures c.args.left.now (c.is_empty.ensures c.if-is_empty.true)

pub returns-else-is_empty : goal.returns-else-is_empty
returns-else-is_empty c =
    let nests = c.args.nests in
    let begins = first-of (items_of nests.values) (items_of c.skip.result) c.in-Some.one.now c.in-Some.ensures.found c.skip.ensures in
    on_ok_weaker c.push.result (λ pushed.
    run-begun (nest_text (element_text (types.plain nests.element)) nests.depth) nests.between.now nests.before.now (items_of nests.values) (items_of c.skip.result)
    (items_of c.in_ok-rest-in-Some.rest) c.in-Some.one.now c.args.out.now c.emit.new.self c.write_leaves.new.out c.requires begins c.in_ok-emit-in-Some.ensures.ok
    c.in_ok-rest-in-Some.ensures _ c.args.left.now c.push.new.self refl refl pushed) c.push.ensures.ok
