use Rattle.std.proofs.Common.{ℕ, List, ap, ◌∙◌}
use Rattle.til_resolve.specs.Scope.{home_of}
use Rattle.til_resolve.proofs.scope.Scope.space.Goals as goal

pub returns : goal.returns
returns c = c.copied.ensures ∙ c.get.ensures.value ∙ c.args.self.now.found.finds_spaces c.new.result ∙ ap (λ (path : List (List ℕ)). home_of c.args.self.now.spaces.keys path) c.new.ensures
