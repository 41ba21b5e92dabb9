use Rattle.std.proofs.Common.{◌≡◌, ◌++◌, take}
use Rattle.std.specs.List.{flat_map}
use Rattle.vhdl_writer.specs.Components.{signal_of, where_present}
use Rattle.vhdl_writer.proofs.signals.add_stream.Given as goal

-- the signals so far
abbrev pub invariant-signals : goal.invariant-signals
invariant-signals l = l.signals ≡ l.initial.signals ++ flat_map (where_present l.stream.params (signal_of l.inward l.stream)) (take l.signal-index l.signal-items)
