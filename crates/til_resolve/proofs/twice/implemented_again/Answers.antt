use Rattle.std.proofs.Common.{ap, ◌∙◌}
use Rattle.std.specs.BTreeMap.{get}
use Rattle.std.specs.Ordering.{nat_cmp}
use Rattle.til_resolve.specs.Scope.{declarations_of}
use Rattle.til_resolve.proofs.BodyLemmas.{impl-found}
use Rattle.til_resolve.proofs.TwiceLemmas.{implemented-here, implemented-later, implemented-by_none}
use Rattle.til_resolve.proofs.twice.implemented_again.Goals as goal

pub returns-in-Some : goal.returns-in-Some
returns-in-Some c =
    let all = declarations_of c.args.scope.now.declared in
    let found = c.in-Some.ensures ∙ c.get.ensures.value ∙ impl-found all c.in_ok-streamlet.streamlet (get nat_cmp c.args.impls.now) c.requires.impls in
    implemented-here all c.args.number c.in_ok-streamlet.streamlet c.in-Some.one c.get-in-Some.result.now.name.now.place c.in_ok-streamlet.ensures.value found c.if-one-number.true
    (ap (λ d. d.name.place) c.get-in-Some.ensures.value)

pub returns-in_default : goal.returns-in_default
returns-in_default c =
    let all = declarations_of c.args.scope.now.declared in
    let found = c.in-Some.ensures ∙ c.get.ensures.value ∙ impl-found all c.in_ok-streamlet.streamlet (get nat_cmp c.args.impls.now) c.requires.impls in
    implemented-later all c.args.number c.in_ok-streamlet.streamlet c.in-Some.one c.in_ok-streamlet.ensures.value found c.if-one-number.false

pub returns-in_default-2 : goal.returns-in_default-2
returns-in_default-2 c =
    let all = declarations_of c.args.scope.now.declared in
    let found = c.in_default.ensures ∙ c.get.ensures.value ∙ impl-found all c.in_ok-streamlet.streamlet (get nat_cmp c.args.impls.now) c.requires.impls in
    implemented-by_none all c.args.number c.in_ok-streamlet.streamlet c.in_ok-streamlet.ensures.value found
