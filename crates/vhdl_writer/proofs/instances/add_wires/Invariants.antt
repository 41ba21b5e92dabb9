use Rattle.std.proofs.Common.{◌≡◌, ◌++◌, map, take}
use Rattle.vhdl_writer.specs.Architecture.{wire_of}
use Rattle.vhdl_writer.proofs.instances.add_wires.Given as goal

-- the wires so far
abbrev pub invariant-signals : goal.invariant-signals
invariant-signals l = l.wires ≡ l.initial.wires ++ map (wire_of l.instance) (take l.signal-index l.signals)
