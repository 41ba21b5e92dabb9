use Rattle.std.proofs.Common.{arith, subst}
use Rattle.til_resolve.specs.declared.misshapen.Sort.TheVariants as sorts
use Rattle.til_resolve.specs.BadTypes.{IsFirstBad}
use Rattle.til_resolve.specs.Earliest.{IsEarliest}
use Rattle.til_resolve.specs.Faults.{HasTypeAt, written_types}
use Rattle.til_resolve.specs.Scope.{declarations_of}
use Rattle.til_resolve.specs.Shapes.{IsMisshapen}
use Rattle.til_resolve.proofs.BadTypeLemmas.{acyclic-told}
use Rattle.til_resolve.proofs.FirstLemmas.{told-further, told-too_large, told-none_too_large, told-bad, told-no_bad}
use Rattle.til_resolve.proofs.first.first_type_fault.Goals as goal

pub returns-in-Some : goal.returns-in-Some
returns-in-Some c =
    let all = declarations_of c.args.scope.now.declared in
    told-further all 4 5 _
    (told-too_large all c.in-Some.place c.requires.early (subst (IsEarliest (HasTypeAt (IsMisshapen sorts.TooLarge) (written_types all))) c.in-Some.is c.first_misshapen.ensures))

pub first_bad_type-requires-clause-whole : goal.first_bad_type-requires-clause-whole
first_bad_type-requires-clause-whole c =
    let all = declarations_of c.args.scope.now.declared in
    told-none_too_large all c.requires.early (subst (IsEarliest (HasTypeAt (IsMisshapen sorts.TooLarge) (written_types all))) c.in_default.is c.first_misshapen.ensures)

pub returns-in-Some-2 : goal.returns-in-Some-2
returns-in-Some-2 c =
    let all = declarations_of c.args.scope.now.declared in
    told-bad all c.in-Some-2.bad
    (told-none_too_large all c.requires.early (subst (IsEarliest (HasTypeAt (IsMisshapen sorts.TooLarge) (written_types all))) c.in_default.is c.first_misshapen.ensures))
    (subst (IsFirstBad (written_types all)) c.in-Some-2.is c.in_ok-bad.ensures)

pub returns-in-None : goal.returns-in-None
returns-in-None c =
    let all = declarations_of c.args.scope.now.declared in
    told-no_bad all
    (told-none_too_large all c.requires.early (subst (IsEarliest (HasTypeAt (IsMisshapen sorts.TooLarge) (written_types all))) c.in_default.is c.first_misshapen.ensures))
    (subst (IsFirstBad (written_types all)) c.in-None.is c.in_ok-bad.ensures)

pub first_misshapen-requires-clause-acyclic : goal.first_misshapen-requires-clause-acyclic
first_misshapen-requires-clause-acyclic c = acyclic-told (declarations_of c.args.scope.now.declared) 3 (omega arith) c.requires.early
