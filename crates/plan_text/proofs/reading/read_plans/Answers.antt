use Rattle.std.proofs.Common.{◌∙◌, ap, length, List}
use Rattle.std.proofs.lemmas.Result.{err_from_is_err_and}
use Rattle.type_split.specs.declared.split.Phys.{Phys}
use Rattle.plan_text.specs.Blocks.{plans_of}
use Rattle.plan_text.specs.Lines.{told}
use Rattle.plan_text.specs.LinesView.{line_in}
use Rattle.plan_text.proofs.BlockLemmas.{read_plans-stops, read_plans-done}
use Rattle.plan_text.proofs.reading.read_plans.Goals as goal

pub returns-in_err-add_line : goal.returns-in_err-add_line
returns-in_err-add_line c =
    let p = err_from_is_err_and c.from_residual-in_err-add_line.result c.from_residual-in_err-add_line.ensures.1 in
    let (found, holds, streams, goes) = c.lines.invariant in
    let stops = read_plans-stops c.args.cycles c.args.streams.now c.lines.draft.streams.list.now found (told c.lines.lines) _ (told c.args.lines.now) (line_in c.in-Some.line)
    c.in_err-add_line.field-0.0 streams goes c.in-Some.ensures (c.in_err-add_line.ensures.more found holds) in
    rw (p.1, p.2) stops

pub returns : goal.returns
returns c =
    let (found, holds, streams, goes) = c.lines.invariant in
    read_plans-done c.args.cycles c.args.streams.now found (told c.lines.lines) (told c.args.lines.now) c.in_ok-plans.field-0 goes c.in_default.ensures
    (c.in_ok-plans.ensures found holds ∙ ap (λ (s : List Phys). plans_of c.args.cycles (length s) found) streams)
