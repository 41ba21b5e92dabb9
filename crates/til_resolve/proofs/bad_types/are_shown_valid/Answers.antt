use Rattle.std.proofs.Common.{subst}
use Rattle.std.proofs.lemmas.List.Elements.{All-more}
use Rattle.logical_types.specs.Summary.{IsShownValid}
use Rattle.til_resolve.specs.declared.written.Written.{Written}
use Rattle.til_resolve.specs.Scope.{declarations_of}
use Rattle.til_resolve.specs.Written.{ltype_of}
use Rattle.til_resolve.proofs.bad_types.are_shown_valid.Goals as goal

pub written-preserved : goal.written-preserved
written-preserved c =
    let all = declarations_of c.args.scope.now.declared in
    All-more (λ one. IsShownValid (ltype_of all one)) c.args.written.now c.written.one-index c.one-item.result c.written-test.true c.written.invariant
    (subst (λ (one : Written). IsShownValid (ltype_of all one)) c.one-item.is (c.is_shown_valid.ensures.shown.0 c.if-not-is_shown_valid.false))
