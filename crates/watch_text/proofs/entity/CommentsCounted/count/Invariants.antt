use Rattle.std.proofs.Common.{◌≡◌, length, min, take}
use Rattle.std.specs.List.{flat_map}
use Rattle.tydi_base.specs.Lengths.{most_bytes}
use Rattle.vhdl_text.specs.Text.{stream_comment}
use Rattle.watch_text.proofs.entity.CommentsCounted.count.Given as goal

-- the bytes of the comments so far
abbrev pub invariant-heads : goal.invariant-heads
invariant-heads l = l.count ≡ min (length (flat_map stream_comment (take l.head-index l.head-items))) most_bytes
