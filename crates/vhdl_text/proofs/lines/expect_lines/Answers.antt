use Rattle.std.proofs.Common.{List, ℕ, sym, ap, ◌∙◌}
use Rattle.std.proofs.lemmas.Result.{err_from_is_err_and}
use Rattle.vhdl_text.specs.Reading.{the_lines}
use Rattle.vhdl_text.proofs.TakingLemmas.{the_lines-next, the_lines-none, the_lines-stops}
use Rattle.vhdl_text.proofs.lines.expect_lines.Goals as goal

pub returns-in_err-expect_line : goal.returns-in_err-expect_line
returns-in_err-expect_line c =
    let p = err_from_is_err_and c.from_residual.result c.from_residual.ensures.1 in
    let start = ap (λ (wanted : List (List ℕ)). the_lines wanted c.args.lines.now) (sym c.new-wanted.ensures) ∙ c.lines.invariant in
    rw (p.1, p.2) (
      c.in_err-expect_line.ensures.0,
      start ∙ the_lines-stops c.lines.wanted c.lines.lines c.expect_line.new.lines c.in-Some.line.now c.in_err-expect_line.field-0.0 c.in-Some.ensures c.in_err-expect_line.ensures.1,
    )

pub lines-preserved : goal.lines-preserved
lines-preserved c =
    c.lines.invariant ∙ the_lines-next c.lines.wanted c.lines.lines c.expect_line.new.lines c.in-Some.line.now tt c.in-Some.ensures c.in_ok-expect_line.ensures
    ∙ ap (λ (wanted : List (List ℕ)). the_lines wanted c.expect_line.new.lines) (sym c.skip.ensures)

pub returns : goal.returns
returns c = ap (λ (wanted : List (List ℕ)). the_lines wanted c.args.lines.now) (sym c.new-wanted.ensures) ∙ c.lines.invariant ∙ the_lines-none c.lines.wanted c.lines.lines c.in_default.ensures
