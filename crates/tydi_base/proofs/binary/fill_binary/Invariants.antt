use Rattle.std.proofs.Common.{◌≡◌, ◌+◌, drop, length, take}
use Rattle.tydi_base.specs.Binary.{binary_bits}
use Rattle.tydi_base.proofs.binary.fill_binary.Given as goal

-- the bits from here on are those of the digits so far
abbrev pub invariant-digits : goal.invariant-digits
invariant-digits l = (drop l.left l.word ≡ binary_bits (take l.digit-index l.digits)) × (l.left + l.digit-index ≡ length l.digits) × (length l.word ≡ length l.digits)
