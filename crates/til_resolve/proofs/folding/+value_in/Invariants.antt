use Rattle.std.proofs.Common.{◌≡◌, take}
use Rattle.til_resolve.specs.Declarations.{declaration}
use Rattle.til_resolve.specs.Folds.{fold_by_list}
use Rattle.til_resolve.specs.Scope.{declarations_of}
use Rattle.til_resolve.specs.Shapes.{entry_named}
use Rattle.til_resolve.proofs.folding.+value_in.Given as goal

abbrev pub invariant-sum_in-parts : goal.invariant-sum_in-parts
invariant-sum_in-parts g l =
    l.sum ≡ fold_by_list g.F.Fold.layers (entry_named g.F.Fold.layers.of_null (declarations_of l.scope.declared) l.table (declaration (declarations_of l.scope.declared) l.number).space) g.F.Fold.layers.of_no_parts
    (take l.part-index l.parts)
