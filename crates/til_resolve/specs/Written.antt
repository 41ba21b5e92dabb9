-- The types that a tree writes, by the numbers of the declarations in which they stand. It serves the search for errors of types,
-- and no public clause.
use Rattle.std.specs.Prelude.{◌≡◌, ℕ, suc, ◌<◌, ◌++◌, Bool, false, true, List, length, map, Contains}
use Rattle.tydi_base.specs.declared.place.Place.{Place}
use Rattle.til_parser.specs.Tree.{plain}
use Rattle.logical_types.specs.Tree.{Ltype}
use Rattle.til_resolve.specs.declared.written.Written.{Written}
use Rattle.til_resolve.specs.declared.written.Written.TheVariants.{Declared, Port}
use Rattle.til_resolve.specs.Declarations.{Declaration, declaration}
use Rattle.til_resolve.specs.Faults.{WrittenType, written_types}
use Rattle.til_resolve.specs.Shapes.{type_at}
use Rattle.til_resolve.specs.Types.{type_of}

-- the number of the declaration in which a type is written
abbrev pub number_of : Written → ℕ
number_of (Declared number) = number
number_of (Port number port) = number

abbrev pub IsWithin : List Declaration → Written → Type 0
IsWithin all one = number_of one < length all

-- the place at which its errors are reported
abbrev pub place_of : List Declaration → Written → Place
place_of all (Declared number) = (declaration all number).name.place
place_of all (Port number port) = port.now.name.place

-- the type that it stands for
abbrev pub ltype_of : List Declaration → Written → Ltype
ltype_of all (Declared number) = type_at all (suc (length all)) number
ltype_of all (Port number port) = type_of all (declaration all number).space (plain port.now.ltype)

abbrev pub in_port : Written → Bool
in_port (Declared number) = false
in_port (Port number port) = true

abbrev pub written_type : List Declaration → Written → WrittenType
written_type all one = record { place = place_of all one; ltype = ltype_of all one; in_port = in_port one }

-- these types were added
pub record AddsWritten (all : List Declaration) (old new : List Written) (added : List WrittenType) : Type 0 where
  pub types : map (written_type all) new ≡ map (written_type all) old ++ added
  pub within : ((one : Written) → Contains old one → IsWithin all one) → (one : Written) → Contains new one → IsWithin all one

-- these are all types that a tree writes
pub record AreWritten (all : List Declaration) (written : List Written) : Type 0 where
  pub types : map (written_type all) written ≡ written_types all
  pub within : (one : Written) → Contains written one → IsWithin all one
