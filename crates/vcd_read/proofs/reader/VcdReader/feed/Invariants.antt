use Rattle.std.proofs.Common.{length}
use Rattle.vcd_read.proofs.ReaderLemmas.{FedSoFar}
use Rattle.vcd_read.proofs.reader.VcdReader.feed.Given as goal

abbrev pub invariant-words : goal.invariant-words
invariant-words l = FedSoFar l.piece l.rest l.fn.self l.self

abbrev pub decreases-words : goal.decreases-words
decreases-words l = length l.rest
