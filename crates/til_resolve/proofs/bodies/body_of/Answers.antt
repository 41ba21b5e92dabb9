use Rattle.std.proofs.Common.{◌≡◌, Option, IfOk, sym, subst, ◌∙◌}
use Rattle.std.specs.BTreeMap.{get}
use Rattle.std.specs.Ordering.{nat_cmp}
use Rattle.til_resolve.specs.declared.project.Impl.{Impl}
use Rattle.til_resolve.specs.Scope.{declarations_of}
use Rattle.til_resolve.proofs.BodyLemmas.{body_of-none, body_of-written, impl-within, impl-found}
use Rattle.til_resolve.proofs.bodies.body_of.Goals as goal

pub written_impl-requires-clause-within : goal.written_impl-requires-clause-within
written_impl-requires-clause-within c =
    let all = declarations_of c.args.scope.now.declared in
    let found = c.copied.ensures ∙ c.get.ensures.value ∙ impl-found all c.args.streamlet (get nat_cmp c.args.impls.now) c.requires.impls in
    impl-within all c.args.streamlet c.in-Some.number (sym found ∙ c.in-Some.is)

pub returns-in-Some : goal.returns-in-Some
returns-in-Some c =
    let all = declarations_of c.args.scope.now.declared in
    let found = c.copied.ensures ∙ c.get.ensures.value ∙ impl-found all c.args.streamlet (get nat_cmp c.args.impls.now) c.requires.impls in
    subst (λ (o : Option Impl). IfOk c.written_impl.result (λ body. body ≡ o)) (sym (body_of-written all c.args.streamlet c.in-Some.number (sym found ∙ c.in-Some.is))) c.written_impl.ensures

pub returns-in-None : goal.returns-in-None
returns-in-None c =
    let all = declarations_of c.args.scope.now.declared in
    let found = c.copied.ensures ∙ c.get.ensures.value ∙ impl-found all c.args.streamlet (get nat_cmp c.args.impls.now) c.requires.impls in
    sym (body_of-none all c.args.streamlet (sym found ∙ c.in-None.is))
