use Rattle.std.proofs.Common.{◌≡◌, []}
use Rattle.value_gen.specs.Draws.{bits_from}
use Rattle.value_gen.proofs.drawing.Drawing.bits.Given as goal

-- the bits so far, and those that are left, are drawn as all are
abbrev pub invariant-draws : goal.invariant-draws
invariant-draws l = bits_from l.left l.bits l.self.last ≡ bits_from l.count [] l.initial.self.last

abbrev pub decreases-draws : goal.decreases-draws
decreases-draws l = l.left
