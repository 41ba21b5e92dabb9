use Rattle.physical_stream.proofs.LevelLemmas.{transfers_rise, cycles_rise}
use Rattle.physical_stream.proofs.levels.shown_at_greater_levels.Goals as goal

pub returns-clause-transfers : goal.returns-clause-transfers
returns-clause-transfers c = transfers_rise

pub returns-clause-cycles : goal.returns-clause-cycles
returns-clause-cycles c = cycles_rise
