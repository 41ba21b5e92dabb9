use Rattle.til_parser.proofs.rules.LevelRules.{first-rule}
use Rattle.til_parser.proofs.parser.Parser.level.Goals as goal

pub level_of-requires : goal.level_of-requires
level_of-requires c = let found = first-rule.sound _ _ _ c.in_ok-first.ensures in found.spelled.is.1.0
