use Rattle.std.proofs.Common.{◌≡◌, ◌||◌, ◌&&◌, nat_eq, take}
use Rattle.std.specs.BTreeSet.{contains}
use Rattle.til_resolve.specs.Ports.{is_port_name}
use Rattle.til_resolve.specs.Ordered.{Key, by_key}
use Rattle.til_resolve.proofs.ports.add_ports.Given as goal

-- the ports so far are found too
abbrev pub invariant-ports : goal.invariant-ports
invariant-ports l = (key : Key) → contains by_key l.ports key
    ≡ (contains by_key l.initial.ports key || (nat_eq l.owner key.0 && is_port_name (take l.port-index l.added) key.1))
