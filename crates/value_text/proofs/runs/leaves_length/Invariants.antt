use Rattle.std.proofs.Common.{length, ◌-◌}
use Rattle.value_text.specs.Items.{items_of}
use Rattle.value_text.proofs.RunLemmas.{CountsLeaves}
use Rattle.value_text.proofs.runs.leaves_length.Given as goal

-- the bytes that are counted, and those of the words that are left, are all
abbrev pub invariant-leaves : goal.invariant-leaves
invariant-leaves l = CountsLeaves l.nests.before.now l.nests.between.now (items_of l.nests.values) l.count l.lead l.bytes

abbrev pub decreases-leaves : goal.decreases-leaves
decreases-leaves l = length (items_of l.nests.values) - l.count
