use Rattle.std.proofs.Common.{◌≡◌, ◌++◌}
use Rattle.value_text.specs.Pending.{rest_of, steps_of}
use Rattle.value_text.proofs.filling.fill.Given as goal

-- the text that is written, and that of the parts that are left, are all
abbrev pub invariant-steps : goal.invariant-steps
invariant-steps l = rest_of l.initial.left ≡ l.piece ++ rest_of l.left

abbrev pub decreases-steps : goal.decreases-steps
decreases-steps l = steps_of l.left
