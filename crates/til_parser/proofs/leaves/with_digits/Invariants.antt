use Rattle.std.proofs.Common.{◌≡◌, ◌+◌, ◌-◌, ◌*◌, ◌^◌, ◌≤◌, length, drop}
use Rattle.tydi_base.specs.Decimal.{read_on}
use Rattle.til_parser.proofs.leaves.with_digits.Given as goal

-- the digits that are left go on from the number so far, and all that they may spell fits
abbrev pub invariant-digits : goal.invariant-digits
invariant-digits l =
    ((l.value + 1) * 10 ^ (length l.fn.digits - l.digit-index) ≤ 2 ^ 64)
    × (read_on l.value (drop l.digit-index l.digits) ≡ read_on l.fn.number l.fn.digits)
