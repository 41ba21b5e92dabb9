use Rattle.std.proofs.Common.{◌≡◌, ◌+◌, ◌≤◌, length, min}
use Rattle.tydi_base.specs.Lengths.{most_bytes}
use Rattle.value_text.specs.Pending.{rest_of, steps_of}
use Rattle.value_text.proofs.filling.count.Given as goal

-- the bytes that are counted, and those of the parts that are left, are all
abbrev pub invariant-steps : goal.invariant-steps
invariant-steps l = record {
  bytes : min (length (rest_of l.initial.left)) most_bytes ≡ min (l.bytes + length (rest_of l.left)) most_bytes;
  few : l.bytes ≤ most_bytes;
}

abbrev pub decreases-steps : goal.decreases-steps
decreases-steps l = steps_of l.left
