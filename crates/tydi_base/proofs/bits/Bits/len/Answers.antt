use Rattle.std.proofs.Common.{sym}
use Rattle.tydi_base.proofs.BitsLemmas.{length_packed}
use Rattle.tydi_base.proofs.bits.Bits.len.Goals as goal

pub returns : goal.returns
returns c = rw (← c.self.view_is) (sym (length_packed c.self.inside.len c.self.inside.bytes.items c.self.invariant))
