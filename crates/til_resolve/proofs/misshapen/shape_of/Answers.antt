use Rattle.std.proofs.Common.{◌∙◌}
use Rattle.til_resolve.specs.Scope.{declarations_of}
use Rattle.til_resolve.specs.Written.{ltype_of}
use Rattle.til_resolve.proofs.ShapeLemmas.{shape-is}
use Rattle.til_resolve.proofs.misshapen.shape_of.Goals as goal

pub returns : goal.returns
returns c = c.value_of.ensures ∙ shape-is (ltype_of (declarations_of c.args.scope.now.declared) c.args.one.now)
