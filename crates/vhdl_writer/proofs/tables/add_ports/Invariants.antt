use Rattle.std.proofs.Common.{◌≡◌, option_copied, take}
use Rattle.std.specs.Option.{option_or}
use Rattle.std.specs.BTreeMap.{get}
use Rattle.til_resolve.specs.Ordered.{Key, by_key}
use Rattle.vhdl_writer.specs.Finding.{port_at_home}
use Rattle.vhdl_writer.proofs.tables.add_ports.Given as goal

-- the ports so far are found behind those that were there
abbrev pub invariant-ports : goal.invariant-ports
invariant-ports l = (key : Key) → option_copied (get by_key l.table key) ≡ option_or (option_copied (get by_key l.initial.table key)) (port_at_home (take l.port-index l.ports) l.home key)
