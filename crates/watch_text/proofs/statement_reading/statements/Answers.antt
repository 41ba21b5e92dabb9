use Rattle.std.proofs.Common.{ap, sym, ◌∙◌}
use Rattle.tydi_reading.specs.Reading.{took}
use Rattle.watch_text.specs.Progress.{progress_of}
use Rattle.watch_text.specs.Statements.{Statements}
use Rattle.watch_text.proofs.PlainLemmas.{statements_of-map}
use Rattle.watch_text.proofs.SoFarLemmas.{statements-end}
use Rattle.watch_text.proofs.statement_reading.statements.Goals as goal

pub returns-then-ends : goal.returns-then-ends
returns-then-ends c =
    c.lines.invariant ∙ statements-end c.args.forms.now (progress_of c.lines.so_far) c.lines.lines c.skip.new.self c.in-Some.line.now c.in-Some.ensures (sym c.ends.ensures ∙ c.if-ends.true) c.skip.ensures
    ∙ ap (λ (process : Statements). took process c.skip.new.self) (statements_of-map c.lines.so_far.stmts)
