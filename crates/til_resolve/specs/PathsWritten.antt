-- The paths that a declaration has, one after another. They serve the searches for names and for cycles, and no public clause.
use Rattle.std.specs.Prelude.{◌≡◌, List, [], ◌∷◌, ◌++◌, map}
use Rattle.std.specs.Borrow.{Bor}
use Rattle.std.specs.List.{flat_map, filter_map}
use Rattle.til_parser.specs.declared.ltype.AstPart.{AstPart}
use Rattle.til_parser.specs.declared.tree.AstBody.{AstBody}
use Rattle.til_parser.specs.declared.tree.AstKind.{AstKind}
use Rattle.til_parser.specs.declared.tree.AstKind.TheVariants as decls
use Rattle.til_parser.specs.declared.tree.AstPath.{AstPath}
use Rattle.til_parser.specs.declared.tree.AstPorts.TheVariants as ports
use Rattle.til_parser.specs.declared.tree.AstStmt.{AstStmt}
use Rattle.til_parser.specs.Tree.{plain}
use Rattle.til_resolve.specs.declared.kinds.Asked.{Asked}
use Rattle.til_resolve.specs.declared.kinds.Asked.TheVariants as asked
use Rattle.til_resolve.specs.Names.{paths_in, paths_in_ports, instance_at, instances_of}

-- the paths that references refer to
abbrev pub seen : List (Bor AstPath) → List AstPath
seen paths = map (λ path. path.now) paths

-- these paths were added
pub record AddsPaths (old new : List (Bor AstPath)) (added : List AstPath) : Type 0 where
  pub paths : seen new ≡ seen old ++ added

-- the paths in the types of parts
abbrev pub paths_in_list : List AstPart → List AstPath
paths_in_list parts = flat_map (λ part. paths_in (plain part.ltype)) parts

-- the paths after the instances of statements
abbrev pub paths_of_statements : List AstStmt → List AstPath
paths_of_statements all = map (λ one. one.streamlet) (filter_map instance_at all)

-- the paths after the instances of a body
abbrev pub paths_of_body : AstBody → List AstPath
paths_of_body body = map (λ one. one.streamlet) (instances_of body)

-- the paths in a declaration of a kind
abbrev pub paths_of_kind : AstKind → List AstPath
paths_of_kind (decls.Alias ltype) = paths_in (plain ltype)
paths_of_kind (decls.Interface listed) = paths_in_ports listed
paths_of_kind (decls.Streamlet (ports.Own listed)) = paths_in_ports listed
paths_of_kind (decls.Streamlet (ports.Named path)) = path ∷ []
paths_of_kind (decls.Impl target body) = target ∷ paths_of_body body
paths_of_kind (decls.Test target port value plan) = target ∷ []

-- the kind of declaration that the places of these paths need
abbrev pub asked_in : AstKind → Asked
asked_in (decls.Alias ltype) = asked.Type
asked_in (decls.Interface listed) = asked.Type
asked_in (decls.Streamlet (ports.Own listed)) = asked.Type
asked_in (decls.Streamlet (ports.Named path)) = asked.Interface
asked_in (decls.Impl target body) = asked.Streamlet
asked_in (decls.Test target port value plan) = asked.Streamlet
