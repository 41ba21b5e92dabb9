use Rattle.std.proofs.Common.{◌≡◌, take}
use Rattle.logical_types.specs.Tree.{plain_parts}
use Rattle.til_resolve.specs.Declarations.{declaration}
use Rattle.til_resolve.specs.Scope.{declarations_of}
use Rattle.til_resolve.specs.SharedTypes.{replaced_list, type_named}
use Rattle.til_resolve.proofs.replacing.+replaced.Given as goal

-- the parts so far are made
abbrev pub invariant-replaced_parts-parts : goal.invariant-replaced_parts-parts
invariant-replaced_parts-parts l =
    let all = declarations_of l.scope.declared in
    plain_parts l.made ≡ replaced_list (type_named all l.table (declaration all l.number).space) (take l.part-index l.parts)
