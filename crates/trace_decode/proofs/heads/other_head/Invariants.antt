use Rattle.std.proofs.Common.{map}
use Rattle.port_drive.specs.Drives.{head_of_stream}
use Rattle.trace_decode.proofs.HeadLemmas.{SameBefore}
use Rattle.trace_decode.proofs.heads.other_head.Given as goal

abbrev pub invariant-streams : goal.invariant-streams
invariant-streams l = SameBefore l.heads (map head_of_stream l.streams) l.place
