use Rattle.std.proofs.Common.{◌≡◌, ◌+◌, length, min, take}
use Rattle.std.specs.Fmt.{decimal}
use Rattle.std.specs.List.{flat_map}
use Rattle.tydi_base.specs.Lengths.{most_bytes}
use Rattle.physical_stream.specs.StreamLine.{head_text}
use Rattle.cycle_trace.proofs.writing.lengths.header_length.Given as goal

abbrev pub invariant-heads : goal.invariant-heads
invariant-heads l = l.length ≡ min (21 + length (decimal l.header.cycles) + length (flat_map head_text (take l.head-index l.header.heads))) most_bytes
