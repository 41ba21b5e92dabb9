use Rattle.std.proofs.Common.{◌≡◌, ◌<◌, ◌≤◌, ◌^◌, drop, length}
use Rattle.tydi_base.specs.Bits.{number_of_bits, unpack}
use Rattle.tydi_base.proofs.numbers.number_of.Given as goal

-- the number of the bytes from here on, which fits
abbrev pub invariant-bytes : goal.invariant-bytes
invariant-bytes l = record {
  within : l.at ≤ length l.bytes;
  number : l.number ≡ number_of_bits (unpack (drop l.at l.bytes));
  fits : l.number < 2 ^ 128;
}

abbrev pub decreases-bytes : goal.decreases-bytes
decreases-bytes l = l.at
