-- How large a type is (this project's own).
use Rattle.std.specs.Prelude.{ℕ, suc, ◌+◌, max}
use Rattle.logical_types.specs.Tree.{Ltype, null, bits, group, union, stream, Parts, no_parts, part}

-- the types in a type, itself counted: also the user type that a Stream has by default
abbrev mutual
  pub number_of_nodes : Ltype → ℕ
  number_of_nodes null = 1
  number_of_nodes (bits width) = 1
  number_of_nodes (group parts) = suc (nodes_in_parts parts)
  number_of_nodes (union parts) = suc (nodes_in_parts parts)
  number_of_nodes (stream element user settings) = suc (number_of_nodes element + number_of_nodes user)

  pub nodes_in_parts : Parts → ℕ
  nodes_in_parts no_parts = 0
  nodes_in_parts (part name ltype more) = number_of_nodes ltype + nodes_in_parts more

-- how deep types nest: one for a type with none in it
abbrev mutual
  pub depth_of : Ltype → ℕ
  depth_of null = 1
  depth_of (bits width) = 1
  depth_of (group parts) = suc (depth_of_parts parts)
  depth_of (union parts) = suc (depth_of_parts parts)
  depth_of (stream element user settings) = suc (max (depth_of element) (depth_of user))

  pub depth_of_parts : Parts → ℕ
  depth_of_parts no_parts = 0
  depth_of_parts (part name ltype more) = max (depth_of ltype) (depth_of_parts more)
