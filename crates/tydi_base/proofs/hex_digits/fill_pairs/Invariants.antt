use Rattle.std.proofs.Common.{◌≡◌, ◌+◌, ◌*◌, Some, length, drop, take}
use Rattle.tydi_base.specs.Bits.{unpack}
use Rattle.tydi_base.specs.Hex.{bits_of_digits}
use Rattle.tydi_base.proofs.hex_digits.fill_pairs.Given as goal

-- the digits from here on are in the bytes that are filled
abbrev pub invariant-pairs : goal.invariant-pairs
invariant-pairs l = record {
  lengths : l.at + 2 * l.filled ≡ length l.digits;
  bits : bits_of_digits (drop l.at l.digits) ≡ Some (unpack (take l.filled l.bytes));
}

abbrev pub decreases-pairs : goal.decreases-pairs
decreases-pairs l = l.at
