-- The types of declarations in a table, and written types that are made of them. It serves the making of types, and no public clause.
use Rattle.std.specs.Prelude.{◌≡◌, ℕ, List, [], ◌∷◌, slice_index_or}
use Rattle.til_parser.specs.declared.ltype.AstPart.{AstPart}
use Rattle.til_parser.specs.declared.tree.AstName.{AstName}
use Rattle.til_parser.specs.Tree as tree
use Rattle.logical_types.specs.declared.ltype.LType.{LType}
use Rattle.logical_types.specs.declared.ltype.LType.TheVariants as types
use Rattle.logical_types.specs.Tree.{Ltype, Parts, no_parts, part, plain}
use Rattle.til_resolve.specs.Declarations.{Declaration}
use Rattle.til_resolve.specs.Tables.{AreEntries}
use Rattle.til_resolve.specs.Shapes.{entry_named}
use Rattle.til_resolve.specs.Types.{replaced}

-- ---- written types, by a table of the types of declarations

-- the type that a table has of a number; Null where it has none
abbrev pub ltype_at : List LType → ℕ → Ltype
ltype_at table one = plain (slice_index_or table one types.Null)

-- the type that a path names in a namespace, by a table
abbrev pub type_named : List Declaration → List LType → List (List ℕ) → List AstName → Ltype
type_named all table space names = plain (entry_named types.Null all table space names)

-- parts with each path in them replaced
abbrev pub replaced_list : (List AstName → Ltype) → List AstPart → Parts
replaced_list meaning [] = no_parts
replaced_list meaning (first ∷ more) = part first.name.name (replaced meaning (tree.plain first.ltype)) (replaced_list meaning more)

-- a type that is made is this one
abbrev pub IsTypeOf : Ltype → LType → Type 0
IsTypeOf ltype made = plain made ≡ ltype

-- a table has the type of each declaration, with so many names replaced inside one another at most
abbrev pub AreTypes : List Declaration → ℕ → List LType → Type 0
AreTypes = AreEntries types.Null IsTypeOf
