use Rattle.std.proofs.Common.{◌≡◌, ◌∙◌, ◌+◌, List, ap, drop, length, min, sym, arith}
use Rattle.tydi_base.specs.Lengths.{most_bytes}
use Rattle.watch_text.specs.Statements.{Statement, dims, if_active, if_last, lanes, plain, plain_statements}
use Rattle.watch_text.specs.Text.{statement_text, statements_text}
use Rattle.watch_text.specs.declared.watch.WStmt.{WStmt}
use Rattle.watch_text.proofs.LoopLemmas.{counted-end, counted-more}
use Rattle.watch_text.proofs.PlainLemmas.{plain-Dims, plain-IfActive, plain-IfLast, plain-Lanes, size_of, statement_size, statements-past, statements-step}
use Rattle.watch_text.proofs.statements.+counting.Goals as goal

pub count_statement-count_block-requires : goal.count_statement-count_block-requires
count_statement-count_block-requires t c =
    let is : plain c.args.statement.now ≡ lanes (plain_statements c.as_slice.result.now) =
    ap plain c.in-Lanes.is ∙ plain-Lanes c.in-Lanes.body ∙ ap (λ (l : List WStmt). lanes (plain_statements l)) (sym c.as_slice.ensures) in
    let size = ap size_of is in (omega (arith, size, c.decreases), tt)

pub count_statement-returns-in-Lanes : goal.count_statement-returns-in-Lanes
count_statement-returns-in-Lanes t c right at =
    let is : plain c.args.statement.now ≡ lanes (plain_statements c.as_slice.result.now) =
    ap plain c.in-Lanes.is ∙ plain-Lanes c.in-Lanes.body ∙ ap (λ (l : List WStmt). lanes (plain_statements l)) (sym c.as_slice.ensures) in
    c.count_block.ensures right at ∙ ap (λ (s : Statement). min (length (statement_text c.args.head.now right s)) most_bytes) (sym is)

pub count_statement-count_block-requires-in-Dims : goal.count_statement-count_block-requires-in-Dims
count_statement-count_block-requires-in-Dims t c =
    let is : plain c.args.statement.now ≡ dims (plain_statements c.as_slice-in-Dims.result.now) =
    ap plain c.in-Dims.is ∙ plain-Dims c.in-Dims.body ∙ ap (λ (l : List WStmt). dims (plain_statements l)) (sym c.as_slice-in-Dims.ensures) in
    let size = ap size_of is in (omega (arith, size, c.decreases), tt)

pub count_statement-returns-in-Dims : goal.count_statement-returns-in-Dims
count_statement-returns-in-Dims t c right at =
    let is : plain c.args.statement.now ≡ dims (plain_statements c.as_slice-in-Dims.result.now) =
    ap plain c.in-Dims.is ∙ plain-Dims c.in-Dims.body ∙ ap (λ (l : List WStmt). dims (plain_statements l)) (sym c.as_slice-in-Dims.ensures) in
    c.count_block-in-Dims.ensures right at ∙ ap (λ (s : Statement). min (length (statement_text c.args.head.now right s)) most_bytes) (sym is)

pub count_statement-count_block-requires-in-IfActive : goal.count_statement-count_block-requires-in-IfActive
count_statement-count_block-requires-in-IfActive t c =
    let is : plain c.args.statement.now ≡ if_active (plain_statements c.as_slice-in-IfActive.result.now) =
    ap plain c.in-IfActive.is ∙ plain-IfActive c.in-IfActive.body ∙ ap (λ (l : List WStmt). if_active (plain_statements l)) (sym c.as_slice-in-IfActive.ensures) in
    let size = ap size_of is in (omega (arith, size, c.decreases), tt)

pub count_statement-returns-in-IfActive : goal.count_statement-returns-in-IfActive
count_statement-returns-in-IfActive t c right at =
    let is : plain c.args.statement.now ≡ if_active (plain_statements c.as_slice-in-IfActive.result.now) =
    ap plain c.in-IfActive.is ∙ plain-IfActive c.in-IfActive.body ∙ ap (λ (l : List WStmt). if_active (plain_statements l)) (sym c.as_slice-in-IfActive.ensures) in
    c.count_block-in-IfActive.ensures right at ∙ ap (λ (s : Statement). min (length (statement_text c.args.head.now right s)) most_bytes) (sym is)

pub count_statement-count_block-requires-in-IfLast : goal.count_statement-count_block-requires-in-IfLast
count_statement-count_block-requires-in-IfLast t c =
    let is : plain c.args.statement.now ≡ if_last (plain_statements c.as_slice-in-IfLast.result.now) =
    ap plain c.in-IfLast.is ∙ plain-IfLast c.in-IfLast.body ∙ ap (λ (l : List WStmt). if_last (plain_statements l)) (sym c.as_slice-in-IfLast.ensures) in
    let size = ap size_of is in (omega (arith, size, c.decreases), tt)

pub count_statement-returns-in-IfLast : goal.count_statement-returns-in-IfLast
count_statement-returns-in-IfLast t c right at =
    let is : plain c.args.statement.now ≡ if_last (plain_statements c.as_slice-in-IfLast.result.now) =
    ap plain c.in-IfLast.is ∙ plain-IfLast c.in-IfLast.body ∙ ap (λ (l : List WStmt). if_last (plain_statements l)) (sym c.as_slice-in-IfLast.ensures) in
    c.count_block-in-IfLast.ensures right at ∙ ap (λ (s : Statement). min (length (statement_text c.args.head.now right s)) most_bytes) (sym is)

pub count_statements-count_statement-requires : goal.count_statements-count_statement-requires
count_statements-count_statement-requires t c =
    let size = statement_size c.args.statements.now c.statements.statement-index c.statement-item.result c.statements-test.true c.statement-item.is in (omega (arith, size, c.decreases), tt)

pub count_statements-statements-preserved : goal.count_statements-statements-preserved
count_statements-statements-preserved t c right at =
    let some = c.args.statements.now in let index = c.statements.statement-index in
    counted-more c.statements.count _ c.count_statement.result (statement_text c.args.head.now right (plain c.statement-item.result))
    (statements_text c.args.head.now right (plain_statements (drop index some))) (statements_text c.args.head.now right (plain_statements (drop (index + 1) some))) _
    (c.statements.invariant right at) (c.count_statement.ensures right at) c.saturating_add-count.ensures
    (statements-step c.args.head.now right some index c.statement-item.result c.statements-test.true c.statement-item.is)

pub count_statements-returns : goal.count_statements-returns
count_statements-returns t c right at =
    counted-end c.statements.count _ _ (c.statements.invariant right at) (statements-past c.args.head.now right c.args.statements.now c.statements.statement-index c.statements-test.false)
