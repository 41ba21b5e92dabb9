use Rattle.std.proofs.Common.{ℕ, List, ap, subst, ◌∙◌}
use Rattle.std.proofs.lemmas.Result.{on_ok_weaker}
use Rattle.til_resolve.specs.Declarations.{is_streamlet}
use Rattle.til_resolve.specs.Project.{IsStreamletOf, Pairwise}
use Rattle.til_resolve.specs.Scope.{declarations_of}
use Rattle.til_resolve.proofs.MakingLemmas.{streamlets-kept, streamlets-push}
use Rattle.til_resolve.proofs.streamlets.add_streamlet.Goals as goal

pub returns-then-not-is_asked : goal.returns-then-not-is_asked
returns-then-not-is_asked c =
    let all = declarations_of c.args.scope.now.declared in
    subst (λ (l : List ℕ). Pairwise (IsStreamletOf all) l c.args.streamlets.now)
    (streamlets-kept all c.args.number c.is_asked.result (c.is_asked.ensures ∙ ap is_streamlet c.get.ensures.value) c.if-not-is_asked.true) c.requires.so_far

pub returns : goal.returns
returns c =
    let all = declarations_of c.args.scope.now.declared in
    on_ok_weaker c.push.result
    (λ grown. streamlets-push all c.args.number c.is_asked.result c.in_ok-streamlet_of.field-0 c.args.streamlets.now c.push.new.self (c.is_asked.ensures ∙ ap is_streamlet c.get.ensures.value)
    c.if-not-is_asked.false c.requires.so_far c.in_ok-streamlet_of.ensures grown)
    c.push.ensures.ok
