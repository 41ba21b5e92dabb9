use Rattle.tydi_base.proofs.SpellingLemmas.{four_bits-even, four_bits-odd}
use Rattle.tydi_base.proofs.hex.four_bits.Goals as goal

pub returns-then-index-eq0-clause-bits : goal.returns-then-index-eq0-clause-bits
returns-then-index-eq0-clause-bits c = four_bits-even c.args.bytes.now c.args.index c.requires c.if-index-eq0.true

pub returns-else-index-eq0-clause-bits : goal.returns-else-index-eq0-clause-bits
returns-else-index-eq0-clause-bits c = four_bits-odd c.args.bytes.now c.args.index c.requires c.if-index-eq0.false
