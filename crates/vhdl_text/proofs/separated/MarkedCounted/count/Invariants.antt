use Rattle.std.proofs.Common.{◌≡◌, ◌++◌, length, min, take}
use Rattle.std.specs.List.{flat_map}
use Rattle.tydi_base.specs.Lengths.{most_bytes}
use Rattle.vhdl_text.proofs.separated.MarkedCounted.count.Given as goal

-- the bytes of the things so far, each with its mark
abbrev pub invariant-things : goal.invariant-things
invariant-things g l = l.count ≡ min (length (flat_map (λ one. l.self.0.now ++ g.F.Form.text one) (take l.thing-index l.thing-items))) most_bytes
