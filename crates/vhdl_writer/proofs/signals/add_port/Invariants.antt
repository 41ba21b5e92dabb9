use Rattle.std.proofs.Common.{◌≡◌, ◌++◌, take}
use Rattle.std.specs.List.{flat_map}
use Rattle.vhdl_writer.specs.Components.{signals_of_stream}
use Rattle.vhdl_writer.proofs.signals.add_port.Given as goal

-- the signals of the streams so far
abbrev pub invariant-streams : goal.invariant-streams
invariant-streams l = l.signals ≡ l.initial.signals ++ flat_map (signals_of_stream l.port.inward) (take l.stream-index l.stream-items)
