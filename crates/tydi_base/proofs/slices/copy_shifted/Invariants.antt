use Rattle.std.proofs.Common.{◌≡◌, ◌*◌, drop, take}
use Rattle.tydi_base.specs.Bits.{unpack, written_at}
use Rattle.tydi_base.proofs.slices.copy_shifted.Given as goal

-- the bits of so many bytes are copied
abbrev pub invariant-bytes : goal.invariant-bytes
invariant-bytes l = unpack l.bytes ≡ written_at l.at (take (8 * l.index) (drop l.from (unpack l.source))) (unpack l.initial.bytes)
