use Rattle.std.proofs.Common.{take}
use Rattle.trace_decode.specs.Running.{AreFresh}
use Rattle.trace_decode.proofs.decode_run.fresh_streams.Given as goal

abbrev pub invariant-streams : goal.invariant-streams
invariant-streams l = AreFresh (take l.stream-index l.streams) l.kept.items
