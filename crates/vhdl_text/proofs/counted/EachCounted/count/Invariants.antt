use Rattle.std.proofs.Common.{◌≡◌, length, min, take}
use Rattle.std.specs.List.{flat_map}
use Rattle.tydi_base.specs.Lengths.{most_bytes}
use Rattle.vhdl_text.proofs.counted.EachCounted.count.Given as goal

-- the bytes of the things so far
abbrev pub invariant-things : goal.invariant-things
invariant-things g l = l.count ≡ min (length (flat_map g.T.Written.text (take l.thing-index l.thing-items))) most_bytes
