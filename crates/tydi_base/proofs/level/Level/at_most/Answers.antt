use Rattle.std.proofs.Common.{sym}
use Rattle.tydi_base.proofs.LevelOrder.{compared}
use Rattle.tydi_base.proofs.level.Level.at_most.Goals as goal

pub returns : goal.returns
returns c = rw (← c.self.view_is, ← c.other.view_is) (sym (compared _ _))
