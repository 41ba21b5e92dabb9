use Rattle.std.proofs.Common.{◌≡◌, ◌∙◌, ◌≤◌, ◌<◌, ◌&&◌, true, false, not, nat_lt, length, sym, ap, arith}
use Rattle.std.proofs.Math.Bool.{and-false}
use Rattle.std.proofs.lemmas.Bool.Decides.{nat_tests}
use Rattle.std.proofs.lemmas.Result.{err_from_is_err_and}
use Rattle.std.specs.List.{list_any}
use Rattle.std.specs.Str.{bytes_eq}
use Rattle.tydi_base.specs.Path.{path_text}
use Rattle.tydi_base.proofs.ReadingLaws.{fails_then}
use Rattle.physical_stream.specs.StreamLine.{head_of, misspelling_in}
use Rattle.cycle_trace.specs.HeaderText.{head_after}
use Rattle.cycle_trace.specs.Version.{may_have_level}
use Rattle.cycle_trace.proofs.header.head_after.Goals as goal

pub returns-in_err-head-clause-gives : goal.returns-in_err-head-clause-gives
unfolding head_after
returns-in_err-head-clause-gives c = λ texts told many.
    let p = err_from_is_err_and c.from_residual.result c.from_residual.ensures.1 in
    rw (p.1, p.2) (fails_then (misspelling_in c.in_err-head.field-0.0) (head_of c.args.line.now) _ c.in_err-head.ensures)

pub returns-then-not-may_have-clause-gives : goal.returns-then-not-may_have-clause-gives
unfolding head_after
returns-then-not-may_have-clause-gives c = λ texts told many.
    let may : may_have_level c.args.version c.in_ok-head.head.params.level ≡ false = sym c.may_have.ensures ∙ c.if-not-may_have.true in
    rw (c.in_ok-head.ensures, may)

pub returns-then-count-ge-MOST_STREAMS-clause-gives : goal.returns-then-count-ge-MOST_STREAMS-clause-gives
unfolding head_after
returns-then-count-ge-MOST_STREAMS-clause-gives c = λ texts told many.
    let full : 65536 ≤ length texts = omega (arith, many, c.if-count-ge-MOST_STREAMS.true) in
    let past : nat_lt (length texts) 65536 ≡ false = grind (arith, nat_tests) in
    let may : may_have_level c.args.version c.in_ok-head.head.params.level ≡ true = sym c.may_have.ensures ∙ c.if-not-may_have.false in
    rw (c.in_ok-head.ensures, may, past)

pub returns-then-not-branch-clause-gives : goal.returns-then-not-branch-clause-gives
unfolding head_after
returns-then-not-branch-clause-gives c = λ texts told many.
    let path = path_text c.in_ok-head.head.path in
    let met : not (list_any (bytes_eq path) texts) ≡ false = ap not (sym (told.same path)) ∙ sym (rw c.in_ok-text.ensures at c.in_ok-add_text.ensures.fresh) ∙ c.if-not-branch.true in
    rw (c.in_ok-head.ensures, met, and-false (may_have_level c.args.version c.in_ok-head.head.params.level && nat_lt (length texts) 65536))

pub returns-clause-gives : goal.returns-clause-gives
unfolding head_after
returns-clause-gives c = λ texts told many.
    let room : length texts < 65536 = omega (arith, many, c.if-count-ge-MOST_STREAMS.false) in
    let few : nat_lt (length texts) 65536 ≡ true = grind (arith, nat_tests) in
    let path = path_text c.in_ok-head.head.path in
    let new : not (list_any (bytes_eq path) texts) ≡ true = ap not (sym (told.same path)) ∙ sym (rw c.in_ok-text.ensures at c.in_ok-add_text.ensures.fresh) ∙ c.if-not-branch.false in
    let may : may_have_level c.args.version c.in_ok-head.head.params.level ≡ true = sym c.may_have.ensures ∙ c.if-not-may_have.false in
    rw (c.in_ok-head.ensures, may, few, new)
