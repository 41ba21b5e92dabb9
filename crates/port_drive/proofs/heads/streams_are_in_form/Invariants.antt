use Rattle.std.proofs.Common.{ℕ, ◌<◌, get_or}
use Rattle.physical_stream.specs.StreamLine.{IsHead}
use Rattle.type_split.specs.declared.split.Phys.{Phys}
use Rattle.port_drive.specs.Drives.{head_of_stream}
use Rattle.port_drive.proofs.heads.streams_are_in_form.Given as goal

abbrev pub invariant-streams : goal.invariant-streams
invariant-streams l = (k : ℕ) (d : Phys) → k < l.stream-index → IsHead (head_of_stream (get_or l.streams k d))
