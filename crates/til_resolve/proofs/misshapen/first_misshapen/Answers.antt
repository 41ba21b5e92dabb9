use Rattle.std.proofs.Common.{List, map, subst, ap, ◌∙◌}
use Rattle.std.proofs.lemmas.List.{map-append, take_all}
use Rattle.til_resolve.specs.Earliest.{IsEarliest}
use Rattle.til_resolve.specs.Faults.{HasTypeAt, WrittenType}
use Rattle.til_resolve.specs.Scope.{declarations_of}
use Rattle.til_resolve.specs.Shapes.{IsMisshapen}
use Rattle.til_resolve.specs.Written.{written_type}
use Rattle.til_resolve.proofs.MisshapenLemmas.{types-grown}
use Rattle.til_resolve.proofs.WrittenLemmas.{Contains-at}
use Rattle.til_resolve.proofs.misshapen.first_misshapen.Goals as goal

pub misshapen_at-requires-clause-within : goal.misshapen_at-requires-clause-within
misshapen_at-requires-clause-within c =
    c.requires.written.within c.one-item.result (Contains-at c.args.written.now c.written.one-index c.one-item.result c.written-test.true c.one-item.is)

pub written-preserved : goal.written-preserved
written-preserved c =
    let all = declarations_of c.args.scope.now.declared in
    types-grown (IsMisshapen c.args.sort) (map (written_type all)) c.args.written.now c.written.one-index c.one-item.result c.written.found c.misshapen_at.result c.earlier-found.result
    (map-append (written_type all)) c.written-test.true c.one-item.is c.earlier-found.ensures c.written.invariant c.misshapen_at.ensures

pub returns : goal.returns
returns c =
    let all = declarations_of c.args.scope.now.declared in
    subst (λ (l : List WrittenType). IsEarliest (HasTypeAt (IsMisshapen c.args.sort) l) c.written.found)
    (ap (map (written_type all)) (take_all c.written.one-index c.args.written.now c.written-test.false) ∙ c.requires.written.types) c.written.invariant
