use Rattle.std.proofs.Common.{◌≡◌, ◌++◌, ◌≤◌, drop, length}
use Rattle.tydi_base.specs.Binary.{binary_of}
use Rattle.tydi_base.proofs.binary.BinaryWritten.write_to.Given as goal

-- the bits from here on are written
abbrev pub invariant-bits : goal.invariant-bits
invariant-bits l = (l.out ≡ l.initial.out ++ binary_of (drop l.left l.self.0.now)) × (l.left ≤ length l.self.0.now)

abbrev pub decreases-bits : goal.decreases-bits
decreases-bits l = l.left
