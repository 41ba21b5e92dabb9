use Rattle.std.proofs.Common.{◌≡◌, drop}
use Rattle.til_resolve.specs.Lookups.{port_at}
use Rattle.til_resolve.proofs.project.Project.port.Given as goal

-- the port is that of the streamlets that are left
abbrev pub invariant-streamlets : goal.invariant-streamlets
invariant-streamlets l = port_at (drop l.streamlet-index l.self.streamlets) l.path ≡ port_at l.self.streamlets l.path
