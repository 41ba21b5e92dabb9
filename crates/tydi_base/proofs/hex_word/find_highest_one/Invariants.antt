use Rattle.std.proofs.Common.{◌≡◌, Some, drop, option_map, take}
use Rattle.std.specs.List.{position_from}
use Rattle.std.specs.Option.{is_none}
use Rattle.tydi_base.specs.Hex.{bits_of_digits, digit_of}
use Rattle.tydi_base.specs.HexWords.{counted, first_not_hex, hex_bits, highest_one}
use Rattle.tydi_base.proofs.hex_word.find_highest_one.Given as goal

-- each byte so far is a digit, and their highest one is found
abbrev pub invariant-digits : goal.invariant-digits
invariant-digits l = record {
  bits : bits_of_digits (take l.index l.digits) ≡ Some (hex_bits (take l.index l.digits));
  highest : l.highest ≡ option_map counted (highest_one (hex_bits (take l.index l.digits)));
  first : position_from (λ byte. is_none (digit_of byte)) l.index (drop l.index l.digits) ≡ first_not_hex l.digits;
}
