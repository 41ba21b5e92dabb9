use Rattle.std.proofs.Common.{refl}
use Rattle.tydi_base.specs.Level.{pieces_left}
use Rattle.tydi_base.proofs.LevelLaws.{next-none}
use Rattle.tydi_base.proofs.level.next_number.Goals as goal

pub returns-in-None : goal.returns-in-None
unfolding pieces_left
returns-in-None c = rw (c.in-None.is, next-none) refl
