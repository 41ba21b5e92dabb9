use Rattle.tydi_base.proofs.LevelOrder.{numbers_rise, order_is_antisymmetric, order_is_reflexive, order_is_total, order_is_transitive}
use Rattle.tydi_base.proofs.level.levels_are_ordered.Goals as goal

pub returns-clause-reflexive : goal.returns-clause-reflexive
returns-clause-reflexive c = order_is_reflexive

pub returns-clause-antisymmetric : goal.returns-clause-antisymmetric
returns-clause-antisymmetric c = order_is_antisymmetric

pub returns-clause-transitive : goal.returns-clause-transitive
returns-clause-transitive c = order_is_transitive

pub returns-clause-total : goal.returns-clause-total
returns-clause-total c = order_is_total

pub returns-clause-numbers : goal.returns-clause-numbers
returns-clause-numbers c = numbers_rise
