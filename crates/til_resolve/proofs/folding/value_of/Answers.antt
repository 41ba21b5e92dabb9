use Rattle.std.proofs.Common.{length, ap, subst, sym, ◌∙◌, arith}
use Rattle.til_parser.specs.Tree.{plain}
use Rattle.logical_types.specs.Fold.{fold}
use Rattle.logical_types.specs.Tree.{Ltype}
use Rattle.til_resolve.specs.Declarations.{declaration}
use Rattle.til_resolve.specs.Folds.{IsFoldOf}
use Rattle.til_resolve.specs.Names.{paths_in}
use Rattle.til_resolve.specs.Scope.{declarations_of}
use Rattle.til_resolve.specs.Written.{IsWithin, ltype_of}
use Rattle.til_resolve.proofs.EntryLemmas.{IsReady-all}
use Rattle.til_resolve.proofs.StableLemmas.{still}
use Rattle.til_resolve.proofs.folding.value_of.Goals as goal

pub returns-in-Declared : goal.returns-in-Declared
returns-in-Declared g c =
    let all = declarations_of c.args.scope.now.declared in
    let number = c.in-Declared.number in
    let within = subst (IsWithin all) c.in-Declared.is c.requires.within in
    let same = ap (ltype_of all) c.in-Declared.is ∙ still all c.requires.acyclic (length all) number within (omega arith) in
    c.value_at.ensures ∙ c.requires.table.each number within ∙ ap (λ (t : Ltype). fold g.F.Fold.layers t) (sym same)

pub returns-in-Port : goal.returns-in-Port
returns-in-Port g c =
    let all = declarations_of c.args.scope.now.declared in
    let space = (declaration all c.in-Port.number).space in
    let ltype = plain c.in-Port.port.now.ltype in
    c.entry_in.ensures (length all)
    (IsReady-all g.F.Fold.layers.of_null (IsFoldOf g.F.Fold.layers) all space (paths_in ltype) c.args.table.now (length all) c.requires.table)
    ∙ ap (λ w. fold g.F.Fold.layers (ltype_of all w)) (sym c.in-Port.is)
