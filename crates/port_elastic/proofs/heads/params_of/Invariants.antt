use Rattle.std.proofs.Common.{◌≡◌, map, take}
use Rattle.cycle_trace.specs.Trace.{params_of_heads}
use Rattle.port_drive.specs.Drives.{head_of_stream}
use Rattle.port_elastic.proofs.heads.params_of.Given as goal

abbrev pub invariant-streams : goal.invariant-streams
invariant-streams l = l.params ≡ params_of_heads (map head_of_stream (take l.stream-index l.streams))
