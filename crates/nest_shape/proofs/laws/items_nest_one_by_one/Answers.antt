use Rattle.nest_shape.proofs.LawLemmas.{nests_item_by_item}
use Rattle.nest_shape.proofs.laws.items_nest_one_by_one.Goals as goal

pub returns : goal.returns
returns c = nests_item_by_item
