use Rattle.std.proofs.Common.{length}
use Rattle.tydi_base.specs.Pieces.{words_of}
use Rattle.net_text.specs.Ordering.{AreCapacities}
use Rattle.net_text.proofs.capacities.read_capacities.Given as goal

abbrev pub invariant-words : goal.invariant-words
invariant-words l = AreCapacities (words_of l.fn.text) (words_of l.rest) l.found

abbrev pub decreases-words : goal.decreases-words
decreases-words l = length l.rest
