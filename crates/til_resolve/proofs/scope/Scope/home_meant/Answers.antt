use Rattle.std.proofs.Common.{◌∙◌, arith}
use Rattle.til_resolve.specs.Declarations.{declaration}
use Rattle.til_resolve.specs.Scope.{declarations_of}
use Rattle.til_resolve.proofs.ScopeLemmas.{home_of-names}
use Rattle.til_resolve.proofs.scope.Scope.home_meant.Goals as goal

pub returns-in_default : goal.returns-in_default
returns-in_default c = c.space.ensures
    ∙ home_of-names c.args.self.now.spaces.keys (declaration (declarations_of c.args.self.now.declared) c.args.number).space c.args.front (omega arith)
