use Rattle.std.proofs.Common.{List, ℕ, ◌∙◌, sym, subst}
use Rattle.std.proofs.lemmas.Result.{err_from_is_err_and}
use Rattle.tydi_reading.specs.Reading.{rest_of}
use Rattle.physical_stream.specs.declared.head.Head.{Head}
use Rattle.vhdl_text.proofs.TakingLemmas.{HeadsSoFar, heads-fail, heads-more}
use Rattle.vhdl_text.proofs.stream_comments.read_heads.Goals as goal

pub returns-in_err-head : goal.returns-in_err-head
returns-in_err-head c =
    let h = c.lines.invariant in
    let p = err_from_is_err_and c.from_residual.result c.from_residual.ensures.1 in
    rw (p.1, p.2) (λ other. heads-fail c.args.lines.now c.lines.heads c.lines.paths c.lines.lines c.in-Some.line.now c.in-Some-stream_of.text.now c.in_err-head.field-0.0 h c.in-Some.ensures c.in-Some-stream_of.ensures
    (c.in_err-head.ensures.gives h.texts h.told (h.many ∙ sym c.len.ensures)) other)

pub lines-preserved : goal.lines-preserved
lines-preserved c =
    let h = c.lines.invariant in
    let more = heads-more c.args.lines.now c.lines.heads c.lines.paths c.head_after.new.paths c.lines.lines c.in-Some.line.now c.in-Some-stream_of.text.now c.in_ok-head.head h c.in-Some.ensures c.in-Some-stream_of.ensures
    (c.in_ok-head.ensures.gives h.texts h.told (h.many ∙ sym c.len.ensures)) c.in_ok-head.ensures.added in
    subst (λ (left : List (List ℕ)). HeadsSoFar c.args.lines.now c.push.new.self c.head_after.new.paths left) (sym c.skip.ensures)
    (subst (λ (heads : List Head). HeadsSoFar c.args.lines.now heads c.head_after.new.paths (rest_of c.lines.lines)) (sym c.in_ok-push.ensures.ok) more)
