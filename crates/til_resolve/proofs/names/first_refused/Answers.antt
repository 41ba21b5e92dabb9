use Rattle.std.proofs.Common.{◌≡◌, length, Contains, subst, arith}
use Rattle.til_resolve.specs.Declarations.{declaration}
use Rattle.til_resolve.specs.Earliest.{IsEarliest}
use Rattle.til_resolve.specs.Names.{refused, uses_in}
use Rattle.til_resolve.specs.Scope.{declarations_of}
use Rattle.til_resolve.specs.Sought.{is_refused, port_refused, refused_at, all_refused}
use Rattle.til_resolve.proofs.AgainLemmas.{IsEarliest-before}
use Rattle.til_resolve.proofs.EarliestLemmas.{IsEarliest-append}
use Rattle.til_resolve.proofs.names.first_refused.Goals as goal

pub numbers-preserved : goal.numbers-preserved
numbers-preserved c =
    let all = declarations_of c.args.scope.now.declared in
    let one = declaration all c.numbers.number in
    let here : IsEarliest (Contains (refused_at c.args.sought all c.numbers.number)) c.earlier.result = rw (c.earlier.ensures)
    (IsEarliest-append (refused (is_refused c.args.sought all) (uses_in one)) (port_refused c.args.sought all one) c.in_ok-in_paths.in_paths c.of_test-in_test.result
    c.in_ok-in_paths.ensures c.of_test-in_test.ensures) in
    IsEarliest-before (refused_at c.args.sought all) c.numbers.number c.numbers.found c.earlier.result c.earlier-found.result c.earlier-found.ensures c.numbers.invariant here

pub returns : goal.returns
returns c =
    let all = declarations_of c.args.scope.now.declared in
    let same : c.numbers.number ≡ length all = omega (arith, c.len-number-end.ensures) in
    subst (λ n. IsEarliest (Contains (all_refused c.args.sought all n)) c.numbers.found) same c.numbers.invariant
