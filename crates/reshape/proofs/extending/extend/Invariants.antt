use Rattle.std.proofs.Common.{◌-◌, length}
use Rattle.reshape.specs.Fronts.{IsBegun}
use Rattle.reshape.proofs.extending.extend.Given as goal

abbrev pub invariant-items : goal.invariant-items
invariant-items l = IsBegun l.p l.items.items l.front

abbrev pub decreases-items : goal.decreases-items
decreases-items l = length l.items.items - l.front.size
