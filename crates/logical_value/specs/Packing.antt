-- A word as it is packed. It serves the packing, and no public clause.
use Rattle.std.specs.Prelude.{◌≡◌, ℕ, ◌+◌, ◌-◌, ◌≤◌, Bool, List, ◌++◌, length}
use Rattle.tydi_base.specs.Bits.{zero_bits}
use Rattle.logical_value.specs.declared.packing.Packing.{Packing}

-- these bits were written into the word, and so many zeros are left above them
pub record Holds (packing : Packing) (done : List Bool) (room : ℕ) : Type 0 where
  pub at : packing.offset ≡ length done
  pub bits : packing.bits ≡ done ++ zero_bits room

-- these bits were written above those that were there, where there is room for them in an element, which has at most 4,096 bits
abbrev pub Puts : Packing → Packing → List Bool → Type 0
Puts old new bits = (done : List Bool) (room : ℕ) → length done + room ≤ 4096 → length bits ≤ room → Holds old done room → Holds new (done ++ bits) (room - length bits)
