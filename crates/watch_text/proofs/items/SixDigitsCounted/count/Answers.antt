use Rattle.std.proofs.Common.{refl}
use Rattle.tydi_base.specs.Binary.{binary_of}
use Rattle.tydi_base.specs.Bits.{bits_of}
use Rattle.watch_text.proofs.items.SixDigitsCounted.count.Goals as goal

pub returns : goal.returns
unfolding binary_of bits_of
returns c = refl
