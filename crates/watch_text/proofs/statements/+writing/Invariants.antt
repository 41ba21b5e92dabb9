use Rattle.std.proofs.Common.{◌*◌, ◌+◌, drop}
use Rattle.watch_text.specs.Statements.{plain, plain_statements}
use Rattle.watch_text.specs.Text.{statements_text}
use Rattle.watch_text.proofs.LoopLemmas.{IsBegun}
use Rattle.watch_text.proofs.PlainLemmas.{size_of, size_of_all}
use Rattle.watch_text.proofs.statements.+writing.Given as goal

abbrev pub decreases-write_statements : goal.decreases-write_statements
decreases-write_statements l = 2 * size_of_all (plain_statements l.statements.now)

abbrev pub decreases-write_statement : goal.decreases-write_statement
decreases-write_statement l = 2 * size_of (plain l.statement.now)

abbrev pub decreases-write_block : goal.decreases-write_block
decreases-write_block l = 2 * size_of_all (plain_statements l.body.now) + 1

-- the lines so far, with those that are left, are all
abbrev pub invariant-write_statements-statements : goal.invariant-write_statements-statements
invariant-write_statements-statements l = IsBegun l.initial.out l.out (statements_text l.head l.indent (plain_statements (drop l.statement-index l.statements)))
    (statements_text l.head l.indent (plain_statements l.statements))
