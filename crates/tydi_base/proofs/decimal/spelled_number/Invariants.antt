use Rattle.std.proofs.Common.{◌≡◌, ◌<◌, drop}
use Rattle.tydi_base.specs.Decimal.{read_on}
use Rattle.tydi_base.proofs.decimal.spelled_number.Given as goal

-- the digits that are left go on from the number so far, which fits
abbrev pub invariant-digits : goal.invariant-digits
invariant-digits g l = (g.N.FromDigits.value l.value < g.N.FromDigits.limit) × (read_on (g.N.FromDigits.value l.value) (drop l.digit-index l.digits) ≡ read_on 0 l.fn.digits)
