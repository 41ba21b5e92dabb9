use Rattle.std.proofs.Common.{◌≡◌, ◌≤◌, drop, length, None}
use Rattle.vcd_read.specs.Words as spec
use Rattle.vcd_read.proofs.names.before_last.Given as goal

abbrev pub invariant-bytes : goal.invariant-bytes
invariant-bytes l = (l.left ≤ length l.text) × (spec.before_last 91 (drop l.left l.text) ≡ None)

abbrev pub decreases-bytes : goal.decreases-bytes
decreases-bytes l = l.left
