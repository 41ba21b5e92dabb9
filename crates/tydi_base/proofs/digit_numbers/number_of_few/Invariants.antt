use Rattle.std.proofs.Common.{◌≡◌, Some, take}
use Rattle.tydi_base.proofs.DigitNumbers.{number_in}
use Rattle.tydi_base.proofs.digit_numbers.number_of_few.Given as goal

-- the digits so far spell the number so far
abbrev pub invariant-digits : goal.invariant-digits
invariant-digits l = number_in (take l.digit-index l.digits) ≡ Some l.number
