use Rattle.std.proofs.Common.{◌≡◌, ◌*◌, ◌%◌, ◌≤◌, ◌++◌, take}
use Rattle.tydi_base.specs.Bits.{unpack}
use Rattle.tydi_base.specs.Hex.{hex_of}
use Rattle.tydi_base.specs.Writing.{StandsInFront}
use Rattle.tydi_base.proofs.hex.write_blocks.Given as goal

-- the digits that are written, and then those of the bytes that are left
abbrev pub invariant-sixteens : goal.invariant-sixteens
invariant-sixteens l = record {
  within : 2 * l.at ≤ l.fn.count;
  eights : l.at % 8 ≡ 0;
  front : StandsInFront l.initial.out l.out;
  spelled : l.out ++ hex_of (take (8 * l.at) (unpack l.bytes)) ≡ l.initial.out ++ hex_of (take (4 * l.fn.count) (unpack l.bytes));
}

abbrev pub decreases-sixteens : goal.decreases-sixteens
decreases-sixteens l = l.at
