use Rattle.std.proofs.Common.{Contains, subst, sym}
use Rattle.til_resolve.specs.declared.names.Sought.{Sought}
use Rattle.til_resolve.specs.Declarations.{declaration}
use Rattle.til_resolve.specs.Earliest.{IsEarliest}
use Rattle.til_resolve.specs.Scope.{declarations_of}
use Rattle.til_resolve.specs.Sought.{port_refused}
use Rattle.til_resolve.proofs.names.of_test.Goals as goal

pub returns-in-Unknown : goal.returns-in-Unknown
returns-in-Unknown c =
    let all = declarations_of c.args.scope.now.declared in
    subst (λ (s : Sought). IsEarliest (Contains (port_refused s all (declaration all c.args.number))) c.of_test_unknown.result) (sym c.in-Unknown.is) c.of_test_unknown.ensures
