use Rattle.std.proofs.Common.{arith}
use Rattle.til_resolve.specs.Scope.{declarations_of}
use Rattle.til_resolve.proofs.BadTypeLemmas.{IsFirstBad-shown, acyclic-told}
use Rattle.til_resolve.proofs.bad_types.first_bad_type.Goals as goal

pub returns-then-are_shown_valid : goal.returns-then-are_shown_valid
returns-then-are_shown_valid c =
    IsFirstBad-shown (declarations_of c.args.scope.now.declared) c.args.written.now c.requires.written (c.are_shown_valid.ensures.0 c.if-are_shown_valid.true)

pub first_checked-requires-clause-acyclic : goal.first_checked-requires-clause-acyclic
first_checked-requires-clause-acyclic c = acyclic-told (declarations_of c.args.scope.now.declared) 4 (omega arith) c.requires.whole

pub are_shown_valid-requires-clause-acyclic : goal.are_shown_valid-requires-clause-acyclic
are_shown_valid-requires-clause-acyclic c = acyclic-told (declarations_of c.args.scope.now.declared) 4 (omega arith) c.requires.whole
