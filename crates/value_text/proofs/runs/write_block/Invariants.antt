use Rattle.std.proofs.Common.{length, ◌-◌}
use Rattle.value_text.specs.Items.{items_of}
use Rattle.value_text.specs.Runs.{FirstWritten}
use Rattle.value_text.proofs.runs.write_block.Given as goal

-- the block has the first words, as many as are counted
abbrev pub invariant-leaves : goal.invariant-leaves
invariant-leaves l = FirstWritten l.between (items_of l.values) l.count l.initial.block l.block

abbrev pub decreases-leaves : goal.decreases-leaves
decreases-leaves l = length (items_of l.values) - l.count
