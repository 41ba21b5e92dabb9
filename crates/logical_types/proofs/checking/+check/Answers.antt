use Rattle.std.proofs.Common.{sym, ap, ◌∙◌}
use Rattle.std.proofs.lemmas.Result.{err_from_is_err_and}
use Rattle.logical_types.specs.Tree.{group, union, plain, plain_parts, settings_of}
use Rattle.logical_types.specs.Faults.{faults_within}
use Rattle.logical_types.proofs.PlainLemmas.{plain-Group, plain-Union}
use Rattle.logical_types.proofs.FaultLemmas.{Tells-at, first-of, first-front, faults_of_parts-at, faults_within-rest}
use Rattle.logical_types.proofs.checking.+check.Goals as goal

pub check_parts-returns-in_err-check_type : goal.check_parts-returns-in_err-check_type
check_parts-returns-in_err-check_type k c =
    let p = err_from_is_err_and c.from_residual.result c.from_residual.ensures.1 in
    rw (p.1, p.2) (first-of _ _ _ (sym c.parts.invariant ∙ faults_of_parts-at c.args.around.now c.args.parts.now c.parts.part-index c.part-item.result c.parts-test.true c.part-item.is)
    (first-front _ _ _ c.in_err-check_type.ensures))

pub check_stream-returns-in_err-check_type : goal.check_stream-returns-in_err-check_type
check_stream-returns-in_err-check_type k c =
    let p = err_from_is_err_and c.from_residual-in_err-check_type.result c.from_residual-in_err-check_type.ensures.1 in
    let one = c.args.stream.now in
    rw (p.1, p.2) (first-of _ _ _ (faults_within-rest c.args.around.now c.in_ok-inner.inner (plain one.element) (plain one.user) (settings_of one)
    c.in_ok-inner.ensures.faults (sym c.if-has_stream.ensures) c.in_ok-inner.ensures.inside)
    (first-front _ _ _ c.in_err-check_type.ensures))

pub check_type-returns-in-Group : goal.check_type-returns-in-Group
check_type-returns-in-Group k c = Tells-at _ _ c.check_group.result
    (ap (λ ltype. faults_within c.args.around.now (plain ltype)) c.in-Group.is ∙ ap (faults_within c.args.around.now) (plain-Group c.in-Group.parts)
    ∙ ap (λ parts. faults_within c.args.around.now (group (plain_parts parts))) (sym c.as_slice.ensures)) c.check_group.ensures

pub check_type-returns-in-Union : goal.check_type-returns-in-Union
check_type-returns-in-Union k c = Tells-at _ _ c.check_union.result
    (ap (λ ltype. faults_within c.args.around.now (plain ltype)) c.in-Union.is ∙ ap (faults_within c.args.around.now) (plain-Union c.in-Union.parts)
    ∙ ap (λ parts. faults_within c.args.around.now (union (plain_parts parts))) (sym c.as_slice-in-Union.ensures)) c.check_union.ensures
