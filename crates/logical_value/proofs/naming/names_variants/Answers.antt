use Rattle.logical_types.specs.Tree.{plain}
use Rattle.logical_value.specs.Agreement.{names_variants}
use Rattle.logical_value.proofs.NameLemmas.{names_where_it_stands}
use Rattle.logical_value.proofs.NamingLemmas.{named-whole, test-for}
use Rattle.logical_value.proofs.naming.names_variants.Goals as goal

pub returns-clause-named : goal.returns-clause-named
returns-clause-named c =
    named-whole (plain c.args.ltype.now) c.args.word.now c.past_type.result c.is_some.result c.requires.plain c.requires.width c.past_type.ensures c.is_some.ensures

pub returns-clause-some : goal.returns-clause-some
returns-clause-some c =
    test-for c.is_some.result (names_variants (plain c.args.ltype.now) c.args.word.now)
    (named-whole (plain c.args.ltype.now) c.args.word.now c.past_type.result c.is_some.result c.requires.plain c.requires.width c.past_type.ensures c.is_some.ensures)
    (names_where_it_stands (plain c.args.ltype.now) c.args.word.now)
