use Rattle.std.proofs.Common.{map, take, drop}
use Rattle.til_resolve.specs.PlainProject.{plain_streamlet}
use Rattle.vhdl_writer.specs.Clashing.{AreComponents}
use Rattle.vhdl_writer.proofs.splitting.components_of.Given as goal

-- the streamlets so far have no clash
abbrev pub invariant-streamlets : goal.invariant-streamlets
invariant-streamlets l = AreComponents (map plain_streamlet l.streamlets) (map plain_streamlet (take l.streamlet-index l.streamlets)) (map plain_streamlet (drop l.streamlet-index l.streamlets)) l.components
