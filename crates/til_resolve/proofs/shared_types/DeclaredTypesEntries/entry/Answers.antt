use Rattle.std.proofs.Common.{◌≡◌}
use Rattle.std.proofs.lemmas.Result.{IfOk-weaker}
use Rattle.til_parser.specs.Tree as tree
use Rattle.logical_types.specs.declared.ltype.LType.TheVariants as types
use Rattle.logical_types.specs.Tree.{plain}
use Rattle.til_resolve.specs.Declarations.{declaration}
use Rattle.til_resolve.specs.Scope.{declarations_of}
use Rattle.til_resolve.specs.SharedTypes.{IsTypeOf, type_named}
use Rattle.til_resolve.specs.Tables.{IsMadeOf}
use Rattle.til_resolve.specs.Types.{replaced}
use Rattle.til_resolve.proofs.SharedTypeLemmas.{type-made}
use Rattle.til_resolve.proofs.shared_types.DeclaredTypesEntries.entry.Goals as goal

pub returns : goal.returns
returns c =
    let all = declarations_of c.args.scope.now.declared in
    let space = (declaration all c.args.number).space in
    let table = c.args.table.now in
    let ltype = tree.plain c.args.ltype.now in
    IfOk-weaker c.replaced_type.result (λ made. plain made ≡ replaced (type_named all table space) ltype) (IsMadeOf types.Null IsTypeOf all space ltype table)
    (type-made all space ltype table) c.replaced_type.ensures
