use Rattle.std.proofs.Common.{◌≡◌, length, min, take}
use Rattle.std.specs.List.{flat_map}
use Rattle.tydi_base.specs.Lengths.{most_bytes}
use Rattle.watch_text.specs.Text.{stream_inputs}
use Rattle.watch_text.proofs.entity.InputsCounted.count.Given as goal

-- the bytes of the ports so far
abbrev pub invariant-heads : goal.invariant-heads
invariant-heads l = l.count ≡ min (length (flat_map stream_inputs (take l.head-index l.head-items))) most_bytes
