use Rattle.std.proofs.Common.{◌≡◌, map, drop}
use Rattle.til_resolve.specs.PlainProject.{plain_streamlet}
use Rattle.vhdl_writer.specs.PortClashes.{first_clash}
use Rattle.vhdl_writer.proofs.clash.first_clash.Given as goal

-- the streamlets so far have no clash
abbrev pub invariant-streamlets : goal.invariant-streamlets
invariant-streamlets l = first_clash (map plain_streamlet (drop l.streamlet-index l.streamlet-items)) ≡ first_clash (map plain_streamlet l.project.streamlets)
