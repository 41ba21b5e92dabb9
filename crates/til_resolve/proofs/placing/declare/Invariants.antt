use Rattle.std.proofs.Common.{◌≡◌, ◌++◌, map, take}
use Rattle.til_parser.specs.declared.tree.AstDecl.{AstDecl}
use Rattle.til_resolve.specs.Declarations.{Declaration}
use Rattle.til_resolve.specs.Paths.{texts_of}
use Rattle.til_resolve.specs.Scope.{placed, placed_at}
use Rattle.til_resolve.proofs.placing.declare.Given as goal

-- the declarations so far are added
abbrev pub invariant-decls : goal.invariant-decls
invariant-decls l =
    let declaration : AstDecl → Declaration = λ decl. record { space = texts_of l.space; name = decl.name; kind = decl.kind } in
    placed l.declared ≡ placed l.initial.declared ++ map (placed_at l.home) (map declaration (take l.decl-index l.decl-items))
