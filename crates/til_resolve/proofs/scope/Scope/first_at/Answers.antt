use Rattle.std.proofs.Common.{ap, ◌∙◌}
use Rattle.til_resolve.specs.Scope.{first_at, placed}
use Rattle.til_resolve.proofs.ScopeLemmas.{first_at-within}
use Rattle.til_resolve.proofs.scope.Scope.first_at.Goals as goal

pub returns-clause-value : goal.returns-clause-value
returns-clause-value c = c.copied.ensures ∙ c.get.ensures.value ∙ c.args.self.now.found.finds (c.args.home, c.new.result)
    ∙ ap (first_at (placed c.args.self.now.declared) c.args.home) c.new.ensures

pub returns-clause-within : goal.returns-clause-within
returns-clause-within c = first_at-within c.args.self.now.declared c.args.home c.args.name.now.name c.copied.result
    (c.copied.ensures ∙ c.get.ensures.value ∙ c.args.self.now.found.finds (c.args.home, c.new.result) ∙ ap (first_at (placed c.args.self.now.declared) c.args.home) c.new.ensures)
