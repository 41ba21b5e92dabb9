use Rattle.std.proofs.Common.{◌≡◌, map, take}
use Rattle.til_resolve.specs.PlainProject.{plain_streamlet}
use Rattle.vhdl_writer.specs.Architecture.{part_of}
use Rattle.vhdl_writer.proofs.instances.all_parts.Given as goal

-- the instances so far
abbrev pub invariant-instances : goal.invariant-instances
invariant-instances l = l.parts ≡ map (part_of (map plain_streamlet l.streamlets) l.components) (take l.one-index l.instances)
