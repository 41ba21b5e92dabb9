use Rattle.std.proofs.Common.{◌≡◌, map, take}
use Rattle.physical_stream.specs.declared.head.Head.{Head}
use Rattle.vhdl_meaning.specs.Lines.{zero_lines}
use Rattle.vhdl_meaning.proofs.starting.zero_all.Given as goal

abbrev pub invariant-heads : goal.invariant-heads
invariant-heads l = l.lines.items ≡ map (λ (head : Head). zero_lines head.params) (take l.head-index l.heads)
