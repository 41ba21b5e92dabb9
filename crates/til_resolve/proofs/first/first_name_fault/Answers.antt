use Rattle.std.proofs.Common.{Contains, subst}
use Rattle.til_resolve.specs.Earliest.{IsEarliest}
use Rattle.til_resolve.specs.Names.{twice}
use Rattle.til_resolve.specs.Scope.{declarations_of}
use Rattle.til_resolve.proofs.FirstLemmas.{told-twice, told-names}
use Rattle.til_resolve.proofs.first.first_name_fault.Goals as goal

pub returns-in-Some : goal.returns-in-Some
returns-in-Some c =
    let all = declarations_of c.args.scope.now.declared in
    told-twice all c.in-Some.place (subst (IsEarliest (Contains (twice all))) c.in-Some.is c.in_ok-place.ensures)

pub returns : goal.returns
returns c =
    let all = declarations_of c.args.scope.now.declared in
    told-names all c.in_ok-unknown.unknown c.in_ok-wrong_kind.wrong_kind c.first_of_both.result c.first_of_both.ensures
    (subst (IsEarliest (Contains (twice all))) c.in_default.is c.in_ok-place.ensures) c.in_ok-unknown.ensures c.in_ok-wrong_kind.ensures
