use Rattle.std.proofs.Common.{◌≡◌, ℕ, ◌*◌, ◌+◌, drop, min}
use Rattle.tydi_base.specs.Lengths.{most_bytes}
use Rattle.watch_text.specs.Statements.{plain, plain_statements}
use Rattle.watch_text.specs.Text.{statements_text}
use Rattle.watch_text.proofs.LoopLemmas.{IsCounted}
use Rattle.watch_text.proofs.PlainLemmas.{size_of, size_of_all}
use Rattle.watch_text.proofs.statements.+counting.Given as goal

abbrev pub decreases-count_statements : goal.decreases-count_statements
decreases-count_statements l = 2 * size_of_all (plain_statements l.statements.now)

abbrev pub decreases-count_statement : goal.decreases-count_statement
decreases-count_statement l = 2 * size_of (plain l.statement.now)

abbrev pub decreases-count_block : goal.decreases-count_block
decreases-count_block l = 2 * size_of_all (plain_statements l.body.now) + 1

-- the bytes of the lines so far, with those that are left, are all
abbrev pub invariant-count_statements-statements : goal.invariant-count_statements-statements
invariant-count_statements-statements l = (right : ℕ) → l.indent ≡ min right most_bytes
    → IsCounted l.count (statements_text l.head right (plain_statements (drop l.statement-index l.statements))) (statements_text l.head right (plain_statements l.statements))
