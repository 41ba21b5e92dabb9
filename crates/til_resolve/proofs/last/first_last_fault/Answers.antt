use Rattle.std.proofs.Common.{arith, length, subst}
use Rattle.til_resolve.specs.declared.misshapen.Sort.TheVariants as sorts
use Rattle.til_resolve.specs.Earliest.{IsEarliest, IsBelow}
use Rattle.til_resolve.specs.Faults.{HasTypeAt, IsCyclicAtTarget, written_types}
use Rattle.til_resolve.specs.Scope.{declarations_of}
use Rattle.til_resolve.specs.Shapes.{IsMisshapen}
use Rattle.til_resolve.proofs.BadTypeLemmas.{acyclic-told}
use Rattle.til_resolve.proofs.LastLemmas.{told-no_stream, told-contained, told-none_last}
use Rattle.til_resolve.proofs.last.first_last_fault.Goals as goal

pub returns-in-Some : goal.returns-in-Some
returns-in-Some c =
    let all = declarations_of c.args.scope.now.declared in
    told-no_stream all c.in-Some.place c.requires.before (subst (IsEarliest (HasTypeAt (IsMisshapen sorts.PortNotStream) (written_types all))) c.in-Some.is c.first_misshapen.ensures)

pub returns-in-Some-2 : goal.returns-in-Some-2
returns-in-Some-2 c =
    let all = declarations_of c.args.scope.now.declared in
    told-contained all c.in-Some-2.place c.requires.before
    (subst (IsEarliest (HasTypeAt (IsMisshapen sorts.PortNotStream) (written_types all))) c.in_default.is c.first_misshapen.ensures)
    (subst (IsEarliest (IsBelow (IsCyclicAtTarget all) (length all))) c.in-Some-2.is c.in_ok-place.ensures)

pub returns-in-None : goal.returns-in-None
returns-in-None c =
    let all = declarations_of c.args.scope.now.declared in
    told-none_last all c.requires.before
    (subst (IsEarliest (HasTypeAt (IsMisshapen sorts.PortNotStream) (written_types all))) c.in_default.is c.first_misshapen.ensures)
    (subst (IsEarliest (IsBelow (IsCyclicAtTarget all) (length all))) c.in-None.is c.in_ok-place.ensures)

pub first_misshapen-requires-clause-acyclic : goal.first_misshapen-requires-clause-acyclic
first_misshapen-requires-clause-acyclic c = acyclic-told (declarations_of c.args.scope.now.declared) 5 (omega arith) c.requires.before
