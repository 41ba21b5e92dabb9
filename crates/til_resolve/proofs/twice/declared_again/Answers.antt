use Rattle.std.proofs.Common.{ap}
use Rattle.til_resolve.specs.Scope.{declarations_of}
use Rattle.til_resolve.proofs.TwiceLemmas.{declared_again-here, declared_again-first, declared_again-none}
use Rattle.til_resolve.proofs.twice.declared_again.Goals as goal

pub returns-in-Some : goal.returns-in-Some
returns-in-Some c = declared_again-here (declarations_of c.args.scope.now.declared) c.args.number c.in-Some.first c.get.result.now.name.now.place c.in-Some.ensures c.if-first-number.true
    (ap (λ d. d.name.place) c.get.ensures.value)

pub returns-in_default : goal.returns-in_default
returns-in_default c = declared_again-first (declarations_of c.args.scope.now.declared) c.args.number c.in-Some.first c.in-Some.ensures c.if-first-number.false

pub returns-in_default-2 : goal.returns-in_default-2
returns-in_default-2 c = declared_again-none (declarations_of c.args.scope.now.declared) c.args.number c.in_default.ensures
