use Rattle.std.proofs.Common.{length}
use Rattle.value_text.specs.Items.{items_of}
use Rattle.value_text.specs.Runs.{LeavesWritten}
use Rattle.value_text.proofs.runs.write_leaves.Given as goal

-- the words that are written, and those that are left, are all
abbrev pub invariant-words : goal.invariant-words
invariant-words l = LeavesWritten l.between (items_of l.initial.left) (items_of l.left) l.initial.out l.out

abbrev pub decreases-words : goal.decreases-words
decreases-words l = length (items_of l.left)
