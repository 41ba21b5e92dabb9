use Rattle.std.proofs.Common.{◌≡◌, ◌++◌, map, take}
use Rattle.vhdl_writer.specs.Architecture.{map_of}
use Rattle.vhdl_writer.proofs.instances.add_maps.Given as goal

-- the signals so far
abbrev pub invariant-signals : goal.invariant-signals
invariant-signals l = l.maps ≡ l.initial.maps ++ map (map_of l.instance) (take l.signal-index l.signals)
