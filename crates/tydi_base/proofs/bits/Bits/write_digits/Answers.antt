use Rattle.std.proofs.Common.{◌≡◌, ◌∙◌, ◌*◌, ap, take}
use Rattle.tydi_base.specs.Bits.{unpack}
use Rattle.tydi_base.specs.Hex.{hex_of}
use Rattle.tydi_base.proofs.SpellingLemmas.{hex_of-packed}
use Rattle.tydi_base.proofs.bits.Bits.write_digits.Goals as goal

pub returns-clause-ok : goal.returns-clause-ok
returns-clause-ok c =
    let digits : hex_of (take (4 * c.div_ceil.result) (unpack c.as_slice.result.now)) ≡ hex_of c.args.self.now =
    ap (λ bytes. hex_of (take (4 * c.div_ceil.result) (unpack bytes))) c.as_slice.ensures
    ∙ hex_of-packed c.self.inside.len c.div_ceil.result c.self.inside.bytes.items c.args.self.now c.self.invariant c.self.view_is
    c.div_ceil.ensures
    in rw (← digits) c.write_digits.ensures.ok
