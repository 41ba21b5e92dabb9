-- Tables of names: which port and which instance they find. They serve the look-ups of ends, and no public clause.
use Rattle.std.specs.Prelude.{◌≡◌, ℕ, nat_eq, List, [], Option, Some, None, option_map, slice_get, if◌then◌else◌}
use Rattle.std.specs.Borrow.{Bor}
use Rattle.std.specs.List.{find}
use Rattle.std.specs.Str.{bytes_eq}
use Rattle.til_resolve.specs.Ordered.{Key}
use Rattle.til_resolve.specs.declared.project.Instance.{Instance}
use Rattle.til_resolve.specs.declared.project.Port.{Port}
use Rattle.til_resolve.specs.declared.project.Streamlet.{Streamlet}

-- the port, or the instance, that a table lends
abbrev pub lent_port : Option (Bor Port) → Option Port
lent_port found = option_map (λ (one : Bor Port). one.now) found

abbrev pub lent_instance : Option (Bor Instance) → Option Instance
lent_instance found = option_map (λ (one : Bor Instance). one.now) found

-- the first port, or instance, of a name
abbrev pub port_in : List Port → List ℕ → Option Port
port_in ports name = find (λ (port : Port). bytes_eq port.name name) ports

abbrev pub instance_in : List Instance → List ℕ → Option Instance
instance_in instances name = find (λ (one : Instance). bytes_eq one.name name) instances

-- the ports of a streamlet, where there is one
abbrev pub ports_there : Option Streamlet → List Port
ports_there None = []
ports_there (Some streamlet) = streamlet.ports

-- the first port of a name in these, where they are those of the asked streamlet
abbrev pub port_at_home : List Port → ℕ → Key → Option Port
port_at_home ports home key = if nat_eq home key.0 then port_in ports key.1 else None

-- a look-up finds the first port of a name in each streamlet
abbrev pub FindsPorts : (Key → Option (Bor Port)) → List Streamlet → Type 0
FindsPorts look streamlets = (key : Key) → lent_port (look key) ≡ port_in (ports_there (slice_get streamlets key.0)) key.1

-- a look-up finds the first instance of a name
abbrev pub FindsInstances : (List ℕ → Option (Bor Instance)) → List Instance → Type 0
FindsInstances look instances = (name : List ℕ) → lent_instance (look name) ≡ instance_in instances name

-- the tables of an implementation find its ports and instances
pub record IsWired (streamlets : List Streamlet) (instances : List Instance) (look_port : Key → Option (Bor Port)) (look_instance : List ℕ → Option (Bor Instance)) : Type 0 where
  pub ports : FindsPorts look_port streamlets
  pub inside : FindsInstances look_instance instances
