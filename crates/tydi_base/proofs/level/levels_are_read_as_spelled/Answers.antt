use Rattle.tydi_base.proofs.LevelLaws.{level_of-level_text, level_of-some}
use Rattle.tydi_base.proofs.level.levels_are_read_as_spelled.Goals as goal

pub returns-clause-spelled : goal.returns-clause-spelled
returns-clause-spelled c = level_of-level_text

pub returns-clause-read : goal.returns-clause-read
returns-clause-read c = level_of-some
