-- The ends inside an implementation: a source end gives data to a link, and a sink end takes it. An own `in` port and an `out` port of
-- an instance are source ends; the others are sink ends. This project's own.
use Rattle.std.specs.Prelude.{ℕ, Bool, not, ◌&&◌, List, [], ◌++◌, map, Option, Some, None, option_map, option_and_then, slice_get}
use Rattle.std.specs.List.{find, flat_map}
use Rattle.std.specs.Option.{option_eq}
use Rattle.std.specs.Str.{bytes_eq}
use Rattle.logical_types.specs.Tree.{Ltype}
use Rattle.til_resolve.specs.PlainProject.{PlainPort, PlainStreamlet}
use Rattle.til_resolve.specs.declared.project.Instance.{Instance}
use Rattle.til_resolve.specs.declared.project.LinkEnd.{LinkEnd}

-- an end, seen from inside the implementation: whether it is a source end, and the type of its port
pub record Side : Type 0 where
  pub is_source : Bool
  pub ltype : Ltype

-- the side of an own port
abbrev pub own_side : PlainPort → Side
own_side port = record { is_source = port.inward; ltype = port.ltype }

-- the side of a port of an instance
abbrev pub instance_side : PlainPort → Side
instance_side port = record { is_source = not port.inward; ltype = port.ltype }

-- the ports of the streamlet of a number
abbrev pub ports_found : Option PlainStreamlet → List PlainPort
ports_found None = []
ports_found (Some streamlet) = streamlet.ports

abbrev pub ports_at : List PlainStreamlet → ℕ → List PlainPort
ports_at streamlets number = ports_found (slice_get streamlets number)

-- the port of a name
abbrev pub port_named : List PlainPort → List ℕ → Option PlainPort
port_named ports name = find (λ (port : PlainPort). bytes_eq port.name name) ports

-- the instance of a name
abbrev pub instance_named : List Instance → List ℕ → Option Instance
instance_named instances name = find (λ (one : Instance). bytes_eq one.name name) instances

-- the inside of an implementation: the ports of its streamlet, and its instances
pub record Inside : Type 0 where
  pub own : List PlainPort
  pub instances : List Instance

-- the side of the end that an instance's name, if any, and a port's name spell; none where there is no such end
abbrev pub side_named : List PlainStreamlet → Inside → Option (List ℕ) → List ℕ → Option Side
side_named streamlets inside None port = option_map own_side (port_named inside.own port)
side_named streamlets inside (Some name) port = option_and_then (λ (one : Instance). option_map instance_side (port_named (ports_at streamlets one.streamlet) port))
    (instance_named inside.instances name)

abbrev pub side_of : List PlainStreamlet → Inside → LinkEnd → Option Side
side_of streamlets inside end = side_named streamlets inside end.instance end.port

-- ---- all ends

abbrev pub own_end : PlainPort → LinkEnd
own_end port = record { instance = None; port = port.name }

abbrev pub ends_of_instance : List PlainStreamlet → Instance → List LinkEnd
ends_of_instance streamlets one = map (λ (port : PlainPort). record { instance = Some one.name; port = port.name }) (ports_at streamlets one.streamlet)

-- the ends inside an implementation: the own ports in order, and then the instances in order, each with its ports
abbrev pub ends_of : List PlainStreamlet → Inside → List LinkEnd
ends_of streamlets inside = map own_end inside.own ++ flat_map (ends_of_instance streamlets) inside.instances

-- two ends have the same names
abbrev pub is_same_end : LinkEnd → LinkEnd → Bool
is_same_end one other = option_eq bytes_eq one.instance other.instance && bytes_eq one.port other.port
