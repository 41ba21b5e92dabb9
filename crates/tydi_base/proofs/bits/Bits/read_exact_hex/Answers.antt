use Rattle.std.proofs.Common.{◌≡◌, arith, length}
use Rattle.tydi_base.proofs.BitsLemmas.{length_packed}
use Rattle.tydi_base.proofs.HexBytes.{word_at-length}
use Rattle.tydi_base.proofs.bits.Bits.read_exact_hex.Goals as goal

pub returns-then-digits-div_ceil-clause-none : goal.returns-then-digits-div_ceil-clause-none
returns-then-digits-div_ceil-clause-none c told =
    let wide : length c.args.self.now ≡ c.self.inside.len = rw (← c.self.view_is) (length_packed c.self.inside.len c.self.inside.bytes.items c.self.invariant) in
    word_at-length _ c.args.digits.now (λ same. c.if-digits-div_ceil.true (omega (arith, wide, same)))

pub read_sized_hex-requires : goal.read_sized_hex-requires
read_sized_hex-requires c =
    let wide : length c.args.self.now ≡ c.self.inside.len = rw (← c.self.view_is) (length_packed c.self.inside.len c.self.inside.bytes.items c.self.invariant) in
    record { sized = omega (arith, wide, c.if-digits-div_ceil.false) }
