use Rattle.std.proofs.Common.{◌≡◌, ◌++◌, take}
use Rattle.std.specs.List.{flat_map}
use Rattle.vhdl_writer.specs.Architecture.{set_of}
use Rattle.vhdl_writer.specs.Components.{where_present}
use Rattle.vhdl_writer.specs.EndStreams.{channel_lent}
use Rattle.vhdl_writer.proofs.sets.add_sets.Given as goal

-- the assignments so far
abbrev pub invariant-signals : goal.invariant-signals
invariant-signals l = l.sets ≡ l.initial.sets ++ flat_map (where_present l.receiving.stream.now.params (set_of (channel_lent l.sending l.receiving))) (take l.signal-index l.signal-items)
