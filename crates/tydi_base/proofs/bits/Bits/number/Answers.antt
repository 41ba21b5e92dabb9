use Rattle.tydi_base.proofs.NumberLemmas.{number_below-packed}
use Rattle.tydi_base.proofs.bits.Bits.number.Goals as goal

pub returns : goal.returns
returns c =
    rw (c.number_of.ensures, c.as_slice.ensures)
    (number_below-packed c.self.inside.len 128 c.self.inside.bytes.items c.args.self.now c.self.invariant c.self.view_is)
