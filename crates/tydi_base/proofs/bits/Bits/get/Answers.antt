use Rattle.std.proofs.Common.{◌≡◌, ◌∙◌, ap, arith, length, sym}
use Rattle.tydi_base.proofs.BitsLemmas.{length_packed}
use Rattle.tydi_base.proofs.BitPlaces.{get_or-packed}
use Rattle.tydi_base.proofs.bits.Bits.get.Goals as goal

pub bit_at-requires : goal.bit_at-requires
bit_at-requires c =
    let width : length c.args.self.now ≡ c.self.inside.len =
    ap length (sym c.self.view_is) ∙ length_packed c.self.inside.len c.self.inside.bytes.items c.self.invariant
    in let bytes : length c.as_slice.result.now ≡ length c.self.inside.bytes.items = ap length c.as_slice.ensures
    in omega (arith, c.self.invariant.room, c.requires)

pub returns : goal.returns
returns c = rw (c.bit_at.ensures, c.as_slice.ensures) (get_or-packed c.self.inside.len c.args.index c.self.inside.bytes.items c.args.self.now c.self.view_is c.requires)
