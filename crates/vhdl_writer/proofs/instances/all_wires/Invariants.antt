use Rattle.std.proofs.Common.{◌≡◌, take}
use Rattle.std.specs.List.{flat_map}
use Rattle.vhdl_writer.specs.Architecture.{wires_of}
use Rattle.vhdl_writer.proofs.instances.all_wires.Given as goal

-- the wires of the instances so far
abbrev pub invariant-instances : goal.invariant-instances
invariant-instances l = l.wires ≡ flat_map (wires_of l.components) (take l.one-index l.instances)
