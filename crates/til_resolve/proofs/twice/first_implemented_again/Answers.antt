use Rattle.std.proofs.Common.{◌≡◌, length, Contains, subst, arith}
use Rattle.til_resolve.specs.Declarations.{before}
use Rattle.til_resolve.specs.Earliest.{IsEarliest}
use Rattle.til_resolve.specs.Names.{implemented_again}
use Rattle.til_resolve.specs.Scope.{declarations_of}
use Rattle.til_resolve.proofs.AgainLemmas.{IsEarliest-before}
use Rattle.til_resolve.proofs.twice.first_implemented_again.Goals as goal

pub numbers-preserved : goal.numbers-preserved
numbers-preserved c = IsEarliest-before (implemented_again (declarations_of c.args.scope.now.declared)) c.numbers.number c.numbers.found c.implemented_again.result c.earlier-found.result
    c.earlier-found.ensures c.numbers.invariant c.implemented_again.ensures

pub returns : goal.returns
returns c =
    let all = declarations_of c.args.scope.now.declared in
    let same : c.numbers.number ≡ length all = omega (arith, c.len-number-end.ensures) in
    subst (λ n. IsEarliest (Contains (before (implemented_again all) n)) c.numbers.found) same c.numbers.invariant
