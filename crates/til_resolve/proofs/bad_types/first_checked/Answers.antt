use Rattle.til_resolve.specs.Scope.{declarations_of}
use Rattle.til_resolve.proofs.BadTypeLemmas.{IsFirstBad-more, IsFirstBad-all}
use Rattle.til_resolve.proofs.bad_types.first_checked.Goals as goal

pub written-preserved : goal.written-preserved
written-preserved c = (
  IsFirstBad-more (declarations_of c.args.scope.now.declared) c.args.written.now c.written.one-index c.one-item.result c.written.found c.in_ok-found.found c.written-test.true c.one-item.is
      c.in_ok-found.ensures.found c.written.invariant.0,
  c.in_ok-found.ensures.findings,
)

pub returns : goal.returns
returns c =
    IsFirstBad-all (declarations_of c.args.scope.now.declared) c.args.written.now c.written.one-index c.written.found c.written-test.false c.requires.written c.written.invariant.0
