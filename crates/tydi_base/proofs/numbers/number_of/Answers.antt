use Rattle.std.proofs.Common.{◌≡◌, ◌∙◌, ◌+◌, ◌-◌, ◌*◌, ◌<◌, ◌≤◌, arith, drop, get_or, length, sym}
use Rattle.tydi_base.specs.Bits.{number_of_bits, unpack}
use Rattle.tydi_base.proofs.NumberLemmas.{below-none, below-some, number-unpack_end, number-unpack_more, number-unpack_none}
use Rattle.tydi_base.proofs.numbers.number_of.Goals as goal
use Rattle.tydi_base.proofs.numbers.number_of.Goals.{After-with_byte}

-- the number with the byte before
more : (c : After-with_byte)
    → 256 * c.bytes.number + get_or c.args.bytes.now (c.bytes.at - 1) 0
    ≡ number_of_bits (unpack (drop (c.bytes.at - 1) c.args.bytes.now))
more c =
    let within : c.bytes.at - 1 < length c.args.bytes.now = omega arith
    in let small : get_or c.args.bytes.now (c.bytes.at - 1) 0 < 256 = omega (arith, c.type_inv.bytes (c.bytes.at - 1))
    in let place : c.bytes.at - 1 + 1 ≡ c.bytes.at = omega arith
    in let step = rw place at (number-unpack_more c.args.bytes.now (c.bytes.at - 1) within small)
    in omega (arith, step, c.bytes.invariant.number)

pub bytes-init : goal.bytes-init
bytes-init c = record {
  within = omega arith;
  number = sym (number-unpack_none c.args.bytes.now (length c.args.bytes.now) (omega arith));
  fits = omega arith;
}

pub returns-in_err-number : goal.returns-in_err-number
returns-in_err-number c =
    let most : 256 * c.bytes.number + get_or c.args.bytes.now (c.bytes.at - 1) 0 ≤ number_of_bits (unpack c.args.bytes.now) =
    omega (arith, more (goal.at.returns-in_err-number c).After-with_byte, number-unpack_end c.args.bytes.now (c.bytes.at - 1))
    in c.from_residual.ensures ∙ sym (below-none _ _ _ (sym c.with_byte.ensures ∙ c.in_err-number.was) most)

pub bytes-preserved : goal.bytes-preserved
bytes-preserved c =
    let told = below-some _ _ c.in_ok-number.number (sym c.with_byte.ensures ∙ c.in_ok-number.was)
    in record {
      within = omega arith;
      number = sym told.0 ∙ more (goal.at.bytes-preserved c).After-with_byte;
      fits = told.1;
    }
