use Rattle.til_parser.specs.Tree.{plain}
use Rattle.til_resolve.specs.Declarations.{declaration}
use Rattle.til_resolve.specs.Scope.{declarations_of}
use Rattle.til_resolve.proofs.FoldLemmas.{fold-made}
use Rattle.til_resolve.proofs.folding.entry_in.Goals as goal

pub returns : goal.returns
returns g c =
    let all = declarations_of c.args.scope.now.declared in
    fold-made g.F.Fold.layers all (declaration all c.args.number).space (plain c.args.ltype.now) c.args.table.now c.value_in.result c.value_in.ensures
