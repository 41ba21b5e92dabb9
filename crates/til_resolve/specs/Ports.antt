-- Ports by the numbers of the declarations that write them. It serves the look-ups, and no public clause.
use Rattle.std.specs.Prelude.{◌≡◌, ℕ, nat_lt, Bool, ◌&&◌, List, Option, Some, None}
use Rattle.std.specs.List.{list_any}
use Rattle.std.specs.Str.{bytes_eq}
use Rattle.til_parser.specs.declared.tree.AstKind.{AstKind}
use Rattle.til_parser.specs.declared.tree.AstKind.TheVariants as decls
use Rattle.til_parser.specs.declared.tree.AstPort.{AstPort}
use Rattle.til_parser.specs.declared.tree.AstPorts.TheVariants as ports
use Rattle.til_resolve.specs.Declarations.{Declaration, declaration, named_as, own_ports, is_interface}
use Rattle.til_resolve.specs.Ordered.{Key}

-- one of these ports has this name
abbrev pub is_port_name : List AstPort → List ℕ → Bool
is_port_name ports name = list_any (λ port. bytes_eq port.name.name name) ports

-- the declaration of this number, which stands before that one, writes a port of this name
abbrev pub is_port_before : List Declaration → ℕ → Key → Bool
is_port_before all number key = nat_lt key.0 number && is_port_name (own_ports (declaration all key.0).kind) key.1

-- a look-up finds the ports of the declarations before a number
abbrev pub FindsPorts : (Key → Bool) → List Declaration → ℕ → Type 0
FindsPorts find all number = (key : Key) → find key ≡ is_port_before all number key

-- the declaration that writes the ports of a streamlet: its own, or the interface that it names
abbrev pub owner_by : List Declaration → ℕ → List (List ℕ) → AstKind → Option ℕ
owner_by all number space (decls.Alias ltype) = None
owner_by all number space (decls.Interface listed) = None
owner_by all number space (decls.Streamlet (ports.Own listed)) = Some number
owner_by all number space (decls.Streamlet (ports.Named path)) = named_as is_interface all space path
owner_by all number space (decls.Impl target body) = None
owner_by all number space (decls.Test target port value plan) = None

abbrev pub owner_of : List Declaration → ℕ → Option ℕ
owner_of all number = owner_by all number (declaration all number).space (declaration all number).kind
