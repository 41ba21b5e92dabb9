use Rattle.std.proofs.Common.{length}
use Rattle.tydi_base.specs.Pieces.{words_of}
use Rattle.net_text.specs.Ordering.{AreAdded}
use Rattle.net_text.proofs.ordering.read_order.Given as goal

abbrev pub invariant-words : goal.invariant-words
invariant-words l = AreAdded l.count (words_of l.fn.text) (words_of l.rest) l.numbers.order l.numbers.seen.items

abbrev pub decreases-words : goal.decreases-words
decreases-words l = length l.rest
