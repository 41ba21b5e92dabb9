use Rattle.std.proofs.Common.{◌≡◌, ◌++◌, ◌<◌, ◌-◌}
use Rattle.tydi_base.specs.Writing.{StandsInFront}
use Rattle.til_parser.specs.Canonical.{digits_of_rest}
use Rattle.til_parser.proofs.written.write_digits.Given as goal

-- the digits so far and those to come are all, behind what was there, and what is left is a rest
abbrev pub invariant-digits : goal.invariant-digits
invariant-digits l = record {
  written : l.out ++ digits_of_rest (18 - l.counter) l.rest l.fn.den ≡ l.fn.out ++ digits_of_rest 18 l.fn.rest l.fn.den;
  front : StandsInFront l.fn.out l.out;
  smaller : l.rest < l.fn.den;
}
