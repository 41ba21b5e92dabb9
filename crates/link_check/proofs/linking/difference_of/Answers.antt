use Rattle.link_check.proofs.TypedLemmas.{alike-none}
use Rattle.link_check.proofs.linking.difference_of.Goals as goal

pub returns-then-name_one_type : goal.returns-then-name_one_type
returns-then-name_one_type c = alike-none c.args.one c.args.other c.requires (c.name_one_type.ensures c.if-name_one_type.true)
