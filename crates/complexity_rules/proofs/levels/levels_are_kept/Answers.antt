use Rattle.complexity_rules.proofs.LevelLemmas.{at_most_is_raised, ending_stays, first_numbers_bind, offences_fall, rules_bind_below, rules_break_below}
use Rattle.complexity_rules.proofs.levels.levels_are_kept.Goals as goal

pub returns-clause-bind : goal.returns-clause-bind
returns-clause-bind c = rules_bind_below

pub returns-clause-first_numbers : goal.returns-clause-first_numbers
returns-clause-first_numbers c = first_numbers_bind

pub returns-clause-raised : goal.returns-clause-raised
returns-clause-raised c = at_most_is_raised

pub returns-clause-rules : goal.returns-clause-rules
returns-clause-rules c = rules_break_below

pub returns-clause-offences : goal.returns-clause-offences
returns-clause-offences c = offences_fall

pub returns-clause-ending : goal.returns-clause-ending
returns-clause-ending c = ending_stays
