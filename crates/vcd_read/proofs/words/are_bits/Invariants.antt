use Rattle.std.proofs.Common.{◌≡◌, take}
use Rattle.std.specs.List.{list_all}
use Rattle.tydi_base.specs.Binary.{is_binary_digit}
use Rattle.vcd_read.proofs.words.are_bits.Given as goal

abbrev pub invariant-letters : goal.invariant-letters
invariant-letters l = l.are ≡ list_all is_binary_digit (take l.letter-index l.letters)
