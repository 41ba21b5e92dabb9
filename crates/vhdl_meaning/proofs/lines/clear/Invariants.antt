use Rattle.std.proofs.Common.{◌≡◌, length, take}
use Rattle.tydi_base.specs.Bits.{zero_bits}
use Rattle.vhdl_meaning.proofs.lines.clear.Given as goal

abbrev pub invariant-bits : goal.invariant-bits
invariant-bits l = record {
  long : length l.word ≡ length l.fn.word;
  zeros : take l.place l.word ≡ zero_bits l.place;
}
