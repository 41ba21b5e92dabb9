use Rattle.tydi_base.proofs.LevelLaws.{made-iff, made-value}
use Rattle.tydi_base.proofs.level.Level.dotted.Goals as goal

pub returns-clause-some : goal.returns-clause-some
returns-clause-some c = made-iff _ _ _ _ c.made_of.result c.made_of.ensures

pub returns-clause-value : goal.returns-clause-value
returns-clause-value c = made-value _ _ _ _ c.made_of.result c.made_of.ensures
