-- The search for clashes: the ports that it takes, and how far it has come. It serves no public clause. This project's own.
use Rattle.std.specs.Prelude.{◌≡◌, List, map}
use Rattle.std.specs.List.{All}
use Rattle.til_resolve.specs.PlainProject.{PlainPort, PlainStreamlet}
use Rattle.til_resolve.specs.PortTypes.{IsPortType}
use Rattle.vhdl_writer.specs.Clashes.{clash_in, first_clash}
use Rattle.vhdl_writer.specs.Components.{component_of, port_of}
use Rattle.vhdl_writer.specs.declared.component.Component.{Component}
use Rattle.vhdl_writer.specs.declared.component.SplitPort.{SplitPort}

-- the types of ports are those of projects that stand
abbrev pub HavePortTypes : List PlainPort → Type 0
HavePortTypes ports = All (λ (port : PlainPort). IsPortType port.ltype) ports

-- the ports so far have no clash, and are split
pub record AreSplit (ports so_far rest : List PlainPort) (split : List SplitPort) : Type 0 where
  pub clash : clash_in rest ≡ clash_in ports
  pub are : split ≡ map port_of so_far

-- the same of streamlets
pub record AreComponents (streamlets so_far rest : List PlainStreamlet) (components : List Component) : Type 0 where
  pub clash : first_clash rest ≡ first_clash streamlets
  pub are : components ≡ map component_of so_far
