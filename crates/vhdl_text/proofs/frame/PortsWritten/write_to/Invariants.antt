use Rattle.std.proofs.Common.{◌≡◌, ◌++◌, take}
use Rattle.std.specs.List.{flat_map}
use Rattle.vhdl_text.specs.Text.{stream_ports}
use Rattle.vhdl_text.proofs.frame.PortsWritten.write_to.Given as goal

-- the text so far stands behind what was there
abbrev pub invariant-heads : goal.invariant-heads
invariant-heads l = l.out ≡ l.initial.out ++ flat_map stream_ports (take l.head-index l.head-items)
