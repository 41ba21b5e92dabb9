use Rattle.std.proofs.Common.{◌≡◌, length, Contains, subst, arith}
use Rattle.til_resolve.specs.Declarations.{before}
use Rattle.til_resolve.specs.Earliest.{IsEarliest}
use Rattle.til_resolve.specs.Names.{twice_at, implemented_again}
use Rattle.til_resolve.specs.Scope.{declarations_of}
use Rattle.til_resolve.proofs.EarliestLemmas.{IsEarliest-append}
use Rattle.til_resolve.proofs.AgainLemmas.{IsEarliest-before}
use Rattle.til_resolve.proofs.twice.first_twice.Goals as goal

pub numbers-preserved : goal.numbers-preserved
numbers-preserved c = IsEarliest-before (twice_at (declarations_of c.args.scope.now.declared)) c.numbers.number c.numbers.found c.in_ok-twice_at.field-0 c.earlier-found.result
    c.earlier-found.ensures c.numbers.invariant c.in_ok-twice_at.ensures

pub returns : goal.returns
returns c =
    let all = declarations_of c.args.scope.now.declared in
    let same : c.numbers.number ≡ length all = omega (arith, c.len-number-end.ensures) in
    rw (c.earlier.ensures)
    (IsEarliest-append (before (twice_at all) (length all)) (before (implemented_again all) (length all)) c.numbers.found c.in_ok-first_implemented_again.field-0
    (subst (λ n. IsEarliest (Contains (before (twice_at all) n)) c.numbers.found) same c.numbers.invariant) c.in_ok-first_implemented_again.ensures)
