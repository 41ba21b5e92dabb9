use Rattle.std.proofs.Common.{◌≡◌, ap, arith, length}
use Rattle.tydi_base.proofs.BitsLemmas.{length_packed}
use Rattle.tydi_base.proofs.HexFilling.{reads}
use Rattle.tydi_base.proofs.bits.Bits.read_sized_hex.Goals as goal

pub fill_or_clear-requires-clause-digits : goal.fill_or_clear-requires-clause-digits
fill_or_clear-requires-clause-digits c =
    let wide : length c.args.self.now ≡ c.self.inside.len = rw (← c.self.view_is) (length_packed c.self.inside.len c.self.inside.bytes.items c.self.invariant) in
    omega (arith, wide, c.requires.sized)

pub returns : goal.returns
returns c =
    let same : length c.fill_or_clear.new.bytes ≡ length c.self.inside.bytes.items = omega (arith, ap length c.as_mut_slice.ensures.value)
    in let told = reads c.self.inside.len c.args.digits.now c.args.self.now c.self.inside.bytes.items c.fill_or_clear.new.bytes c.fill_or_clear.result
    c.self.invariant c.self.view_is same c.fill_or_clear.ensures.packed c.fill_or_clear.ensures.word
    in record { read = told.read; none = told.none; width = told.width_is }
