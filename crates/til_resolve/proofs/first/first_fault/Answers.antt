use Rattle.std.proofs.Common.{subst}
use Rattle.til_resolve.specs.Faults.{IsToldUpTo}
use Rattle.til_resolve.specs.Scope.{declarations_of}
use Rattle.til_resolve.proofs.FirstLemmas.{told-further}
use Rattle.til_resolve.proofs.first.first_fault.Goals as goal

pub returns-in-Some : goal.returns-in-Some
returns-in-Some c =
    let all = declarations_of c.args.scope.now.declared in
    told-further all 3 7 c.in-Some.fault (subst (IsToldUpTo all 3) c.in-Some.is c.in_ok-fault.ensures)
