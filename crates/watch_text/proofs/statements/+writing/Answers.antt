use Rattle.std.proofs.Common.{◌≡◌, ◌∙◌, List, ap, sym, arith}
use Rattle.std.proofs.lemmas.Result.{on_ok_weaker}
use Rattle.watch_text.specs.Statements.{dims, if_active, if_last, lanes, plain, plain_statements}
use Rattle.watch_text.specs.declared.watch.WStmt.{WStmt}
use Rattle.watch_text.proofs.PlainLemmas.{plain-Dims, plain-IfActive, plain-IfLast, plain-Lanes, size_of, statement_size}
use Rattle.watch_text.proofs.statements.+writing.Goals as goal

pub write_statement-write_block-requires : goal.write_statement-write_block-requires
write_statement-write_block-requires t c =
    let is : plain c.args.statement.now ≡ lanes (plain_statements c.as_slice.result.now) =
    ap plain c.in-Lanes.is ∙ plain-Lanes c.in-Lanes.body ∙ ap (λ (l : List WStmt). lanes (plain_statements l)) (sym c.as_slice.ensures) in
    let size = ap size_of is in (omega (arith, size, c.decreases), tt)

pub write_statement-returns-in-Lanes-clause-ok : goal.write_statement-returns-in-Lanes-clause-ok
write_statement-returns-in-Lanes-clause-ok t c =
    on_ok_weaker c.write_block.result (λ ok. rw (c.in-Lanes.is, plain-Lanes, ← c.as_slice.ensures) ok) c.write_block.ensures.ok

pub write_statement-write_block-requires-in-Dims : goal.write_statement-write_block-requires-in-Dims
write_statement-write_block-requires-in-Dims t c =
    let is : plain c.args.statement.now ≡ dims (plain_statements c.as_slice-in-Dims.result.now) =
    ap plain c.in-Dims.is ∙ plain-Dims c.in-Dims.body ∙ ap (λ (l : List WStmt). dims (plain_statements l)) (sym c.as_slice-in-Dims.ensures) in
    let size = ap size_of is in (omega (arith, size, c.decreases), tt)

pub write_statement-returns-in-Dims-clause-ok : goal.write_statement-returns-in-Dims-clause-ok
write_statement-returns-in-Dims-clause-ok t c =
    on_ok_weaker c.write_block-in-Dims.result (λ ok. rw (c.in-Dims.is, plain-Dims, ← c.as_slice-in-Dims.ensures) ok) c.write_block-in-Dims.ensures.ok

pub write_statement-write_block-requires-in-IfActive : goal.write_statement-write_block-requires-in-IfActive
write_statement-write_block-requires-in-IfActive t c =
    let is : plain c.args.statement.now ≡ if_active (plain_statements c.as_slice-in-IfActive.result.now) =
    ap plain c.in-IfActive.is ∙ plain-IfActive c.in-IfActive.body ∙ ap (λ (l : List WStmt). if_active (plain_statements l)) (sym c.as_slice-in-IfActive.ensures) in
    let size = ap size_of is in (omega (arith, size, c.decreases), tt)

pub write_statement-returns-in-IfActive-clause-ok : goal.write_statement-returns-in-IfActive-clause-ok
write_statement-returns-in-IfActive-clause-ok t c =
    on_ok_weaker c.write_block-in-IfActive.result (λ ok. rw (c.in-IfActive.is, plain-IfActive, ← c.as_slice-in-IfActive.ensures) ok) c.write_block-in-IfActive.ensures.ok

pub write_statement-write_block-requires-in-IfLast : goal.write_statement-write_block-requires-in-IfLast
write_statement-write_block-requires-in-IfLast t c =
    let is : plain c.args.statement.now ≡ if_last (plain_statements c.as_slice-in-IfLast.result.now) =
    ap plain c.in-IfLast.is ∙ plain-IfLast c.in-IfLast.body ∙ ap (λ (l : List WStmt). if_last (plain_statements l)) (sym c.as_slice-in-IfLast.ensures) in
    let size = ap size_of is in (omega (arith, size, c.decreases), tt)

pub write_statement-returns-in-IfLast-clause-ok : goal.write_statement-returns-in-IfLast-clause-ok
write_statement-returns-in-IfLast-clause-ok t c =
    on_ok_weaker c.write_block-in-IfLast.result (λ ok. rw (c.in-IfLast.is, plain-IfLast, ← c.as_slice-in-IfLast.ensures) ok) c.write_block-in-IfLast.ensures.ok

pub write_statements-write_statement-requires : goal.write_statements-write_statement-requires
write_statements-write_statement-requires t c =
    let size = statement_size c.args.statements.now c.statements.statement-index c.statement-item.result c.statements-test.true c.statement-item.is in (omega (arith, size, c.decreases), tt)
