-- The types of ports. This project's own.
use Rattle.std.specs.Prelude.{◌≤◌, List}
use Rattle.til_parser.specs.Tree.{plain}
use Rattle.logical_types.specs.Faults.{IsValid}
use Rattle.logical_types.specs.Size.{number_of_nodes}
use Rattle.logical_types.specs.Tree.{Ltype}
use Rattle.til_resolve.specs.Declarations.{Declaration, PortOf}
use Rattle.til_resolve.specs.Types.{type_of}

-- the type that a port is written with
abbrev pub type_of_port : List Declaration → PortOf → Ltype
type_of_port all one = type_of all one.space (plain one.port.ltype)

-- a type as ports of trees without faults have it
pub record IsPortType (ltype : Ltype) : Type 0 where
  pub valid : IsValid ltype
  pub few : number_of_nodes ltype ≤ 65536
