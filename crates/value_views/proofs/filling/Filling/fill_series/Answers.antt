use Rattle.std.proofs.Common.{arith, map}
use Rattle.logical_types.specs.Tree.{plain}
use Rattle.logical_value.specs.Tree as values
use Rattle.value_views.specs.Taking.{left}
use Rattle.value_views.proofs.StreamlessLemmas.{nests-filled}
use Rattle.value_views.proofs.filling.Filling.fill_series.Goals as goal

pub returns-then-number_of_streams-eq0 : goal.returns-then-number_of_streams-eq0
returns-then-number_of_streams-eq0 c = λ some more waits.
    let is = c.number_of_streams.ensures in
    let none = c.if-number_of_streams-eq0.true in
    nests-filled (left c.args.self.now) c.args.number (plain c.args.ltype.now) c.args.depth (map values.plain c.args.ones) some more (omega (arith, is, none)) waits
