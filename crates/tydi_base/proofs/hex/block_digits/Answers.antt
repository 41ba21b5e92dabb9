use Rattle.std.proofs.Common.{◌<◌, ℕ, get_or}
use Rattle.std.proofs.Math.Facts.{Fits-lt-pow}
use Rattle.tydi_base.proofs.SpellingLemmas.{block_spelled}
use Rattle.tydi_base.proofs.hex.block_digits.Goals as goal

pub returns : goal.returns
returns c =
    let fit : (k : ℕ) → get_or c.args.bytes.now k 0 < 256 = λ k. Fits-lt-pow (c.type_inv.bytes k)
    in rw (
      c.high_digit.ensures,
      c.low_digit.ensures,
      c.high_digit-2.ensures,
      c.low_digit-2.ensures,
      c.high_digit-3.ensures,
      c.low_digit-3.ensures,
      c.high_digit-4.ensures,
      c.low_digit-4.ensures,
      c.high_digit-5.ensures,
      c.low_digit-5.ensures,
      c.high_digit-6.ensures,
      c.low_digit-6.ensures,
      c.high_digit-7.ensures,
      c.low_digit-7.ensures,
      c.high_digit-8.ensures,
      c.low_digit-8.ensures,
    )
    (block_spelled c.args.bytes.now c.requires fit)
