-- How large types are, up to where they are too large, by the shapes of the declarations that they name. It serves the search for
-- types that are too large or no Stream, and no public clause.
use Rattle.std.specs.Prelude.{ℕ, zero, suc, ◌+◌, ◌||◌, ◌&&◌, nat_lt, min, max, not, Bool, false, true, List, slice_index_or, Option, Some, None, IsTrue}
use Rattle.til_parser.specs.declared.tree.AstName.{AstName}
use Rattle.logical_types.specs.Fold.{Layers}
use Rattle.logical_types.specs.Size.{number_of_nodes, depth_of}
use Rattle.logical_types.specs.Tree.{Ltype, null}
use Rattle.til_resolve.specs.declared.shape.Shape.{Shape}
use Rattle.til_resolve.specs.declared.misshapen.Sort.{Sort}
use Rattle.til_resolve.specs.declared.misshapen.Sort.TheVariants as sorts
use Rattle.til_resolve.specs.Declarations.{Declaration, declaration, named_as, is_type}
use Rattle.til_resolve.specs.Faults.{WrittenType, IsTooLarge}
use Rattle.til_resolve.specs.Types.{is_stream, type_by, meaning_of}

-- ---- shapes

-- the shape of a type: its nodes and its depth, each up to the first number that is too large
abbrev pub shape_of : Ltype → Shape
shape_of ltype = record { nodes = min (number_of_nodes ltype) 65537; depth = min (depth_of ltype) 65; stream = is_stream ltype }

-- the shape of a type without types in it
abbrev pub leaf : Shape
leaf = record { nodes = 1; depth = 1; stream = false }

-- the shape of no types
abbrev pub nothing : Shape
nothing = record { nodes = 0; depth = 0; stream = false }

-- the shape of types beside one another
abbrev pub beside : Shape → Shape → Shape
beside one other = record { nodes = min (one.nodes + other.nodes) 65537; depth = max one.depth other.depth; stream = false }

-- the shape of a type around others
abbrev pub around : Bool → Shape → Shape
around is_stream inside = record { nodes = min (inside.nodes + 1) 65537; depth = min (inside.depth + 1) 65; stream = is_stream }

-- the fold that gives each type its shape
abbrev pub shape_layers : Layers Shape Shape
shape_layers = record {
  of_null = leaf;
  of_bits = λ width. leaf;
  of_group = λ names inside. around false inside;
  of_union = λ names inside. around false inside;
  of_stream = λ settings element user. around true (beside element user);
  of_no_parts = nothing;
  of_part = beside;
}

-- ---- tables of what is known of declarations

-- the entry of the declaration of a number; the least where there is no number
abbrev pub entry_of_number : {X : Type 0} → X → List X → Option ℕ → X
entry_of_number least table None = least
entry_of_number least table (Some one) = slice_index_or table one least

-- the entry of the type that a path names in a namespace
abbrev pub entry_named : {X : Type 0} → X → List Declaration → List X → List (List ℕ) → List AstName → X
entry_named least all table space names = entry_of_number least table (named_as is_type all space (record { names = names }))

-- the type of a declaration, with so many names replaced inside one another at most
abbrev pub type_at : List Declaration → ℕ → ℕ → Ltype
type_at all zero one = null
type_at all (suc less) one = type_by (meaning_of all less) (declaration all one)

-- ---- the errors of a shape

abbrev pub is_misshapen : Sort → Bool → Shape → Bool
is_misshapen sorts.TooLarge in_port shape = nat_lt 65536 shape.nodes || nat_lt 64 shape.depth
is_misshapen sorts.PortNotStream in_port shape = in_port && not shape.stream

abbrev pub IsMisshapen : Sort → WrittenType → Type 0
IsMisshapen sorts.TooLarge one = IsTooLarge one.ltype
IsMisshapen sorts.PortNotStream one = IsTrue one.in_port × IsTrue (not (is_stream one.ltype))
