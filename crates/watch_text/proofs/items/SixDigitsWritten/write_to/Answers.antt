use Rattle.std.proofs.Common.{rules}
use Rattle.tydi_base.specs.Binary.{binary_of}
use Rattle.tydi_base.specs.Bits.{bits_of}
use Rattle.watch_text.proofs.items.SixDigitsWritten.write_to.Goals as goal

pub returns-clause-ok : goal.returns-clause-ok
unfolding binary_of bits_of
returns-clause-ok c = search rules
