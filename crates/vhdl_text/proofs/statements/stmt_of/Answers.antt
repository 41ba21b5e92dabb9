use Rattle.std.proofs.Common.{◌∙◌, sym}
use Rattle.vhdl_text.specs.Lines.{refusal_in}
use Rattle.vhdl_text.proofs.StatementLemmas.{stmt_of-gives}
use Rattle.vhdl_text.proofs.statements.stmt_of.Goals as goal

pub returns-then-is_same : goal.returns-then-is_same
returns-then-is_same c = λ whole done are many.
    stmt_of-gives c.args.streams.now.heads whole c.args.line.now c.in-Some.parts.front.now c.in-Some.parts.inside.now c.in-Some.parts.back.now refusal_in c.put_of.result c.in-Some.ensures (sym c.is_same.ensures ∙ c.if-is_same.true)
    (c.put_of.ensures whole done are many)
