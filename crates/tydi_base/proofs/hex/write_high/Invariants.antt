use Rattle.std.proofs.Common.{◌≡◌, ◌*◌, ◌≤◌, ◌-◌, ◌++◌, take}
use Rattle.tydi_base.specs.Bits.{unpack}
use Rattle.tydi_base.specs.Hex.{hex_of}
use Rattle.tydi_base.specs.Writing.{StandsInFront}
use Rattle.tydi_base.proofs.hex.write_high.Given as goal

-- the digits that are written, and then those of the bits that are left
abbrev pub invariant-digits : goal.invariant-digits
invariant-digits l = record {
  within : l.at ≤ l.fn.count;
  above : l.low ≤ l.at;
  front : StandsInFront l.initial.out l.out;
  spelled : l.out ++ hex_of (take (4 * l.at) (unpack l.bytes)) ≡ l.initial.out ++ hex_of (take (4 * l.fn.count) (unpack l.bytes));
}

abbrev pub decreases-digits : goal.decreases-digits
decreases-digits l = l.at - l.low
