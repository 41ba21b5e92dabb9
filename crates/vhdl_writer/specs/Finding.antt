-- Tables of names and numbers: which port, which instance and which nets they find. They serve look-ups, and no public clause. This
-- project's own.
use Rattle.std.specs.Prelude.{◌≡◌, ℕ, nat_eq, List, Option, None, if◌then◌else◌}
use Rattle.std.specs.Borrow.{Bor}
use Rattle.std.specs.List.{find}
use Rattle.std.specs.Option.{option_copied}
use Rattle.std.specs.Str.{bytes_eq}
use Rattle.til_resolve.specs.Ordered.{Key}
use Rattle.til_resolve.specs.declared.project.Instance.{Instance}
use Rattle.link_check.specs.Ends.{instance_named}
use Rattle.link_check.specs.declared.nets.ImplNets.{ImplNets}
use Rattle.vhdl_writer.specs.Architecture.{ports_at}
use Rattle.vhdl_writer.specs.declared.component.Component.{Component}
use Rattle.vhdl_writer.specs.declared.component.SplitPort.{SplitPort}

-- the first port of a name
abbrev pub port_named : List SplitPort → List ℕ → Option SplitPort
port_named ports name = find (λ (port : SplitPort). bytes_eq port.name name) ports

-- the port of a name in these, where they are those of the asked streamlet
abbrev pub port_at_home : List SplitPort → ℕ → Key → Option SplitPort
port_at_home ports home key = if nat_eq home key.0 then port_named ports key.1 else None

-- a look-up finds the first port of a name in each component
abbrev pub FindsPorts : (Key → Option (Bor SplitPort)) → List Component → Type 0
FindsPorts look components = (key : Key) → option_copied (look key) ≡ port_named (ports_at components key.0) key.1

-- a look-up finds the first instance of a name
abbrev pub FindsInstances : (List ℕ → Option (Bor Instance)) → List Instance → Type 0
FindsInstances look instances = (name : List ℕ) → option_copied (look name) ≡ instance_named instances name

-- a look-up finds the first nets of a number
abbrev pub FindsNets : (ℕ → Option (Bor ImplNets)) → List ImplNets → Type 0
FindsNets look impls = (number : ℕ) → option_copied (look number) ≡ find (λ (one : ImplNets). nat_eq one.streamlet number) impls

-- the tables of an implementation find its ports and instances
pub record AreFound (components : List Component) (instances : List Instance) (look_port : Key → Option (Bor SplitPort)) (look_instance : List ℕ → Option (Bor Instance)) : Type 0 where
  pub ports : FindsPorts look_port components
  pub inside : FindsInstances look_instance instances
