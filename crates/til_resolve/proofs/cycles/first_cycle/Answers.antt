use Rattle.std.proofs.Common.{◌≡◌, length, subst, arith}
use Rattle.til_resolve.specs.Earliest.{IsEarliest, IsBelow}
use Rattle.til_resolve.specs.Scope.{declarations_of}
use Rattle.til_resolve.specs.Suspects.{IsCyclicAt}
use Rattle.til_resolve.proofs.cycles.first_cycle.Goals as goal

pub returns : goal.returns
returns c =
    let all = declarations_of c.args.scope.now.declared in
    let same : c.numbers.number ≡ length all = omega (arith, c.len-number-end.ensures) in
    subst (λ n. IsEarliest (IsBelow (IsCyclicAt c.args.site all c.args.graph.now) n) c.numbers.found) same c.numbers.invariant
