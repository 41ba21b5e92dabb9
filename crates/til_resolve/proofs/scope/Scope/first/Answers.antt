use Rattle.std.proofs.Common.{ap, ◌∙◌, ◌++◌, [], ◌∷◌}
use Rattle.til_resolve.specs.Declarations.{declaration, first_of_path}
use Rattle.til_resolve.specs.Scope.{declarations_of, placed}
use Rattle.til_resolve.proofs.ScopeLemmas.{first_at-found}
use Rattle.til_resolve.proofs.scope.Scope.first.Goals as goal

pub returns : goal.returns
returns c =
    let all = declarations_of c.args.self.now.declared in
    let one = declaration all c.args.number in
    c.first_at.ensures.value
    ∙ first_at-found c.args.self.now.spaces.keys (placed c.args.self.now.declared) one.space c.get-one.result.now.home c.get-one.result.now.name.now.name
    c.args.self.now.found.homes c.get-one.ensures.home
    ∙ ap (λ d. first_of_path all (one.space ++ d.name.name ∷ [])) c.get-one.ensures.value
