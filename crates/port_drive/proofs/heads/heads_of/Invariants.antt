use Rattle.std.proofs.Common.{◌≡◌, map, take}
use Rattle.port_drive.specs.Drives.{head_of_stream}
use Rattle.port_drive.proofs.heads.heads_of.Given as goal

abbrev pub invariant-streams : goal.invariant-streams
invariant-streams l = l.heads ≡ map head_of_stream (take l.stream-index l.streams)
