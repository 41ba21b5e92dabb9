use Rattle.std.proofs.Common.{◌≡◌}
use Rattle.reshape.specs.Filled.{words_first}
use Rattle.reshape.proofs.filling.put_elements.Given as goal

abbrev pub invariant-lanes : goal.invariant-lanes
invariant-lanes l = l.content ≡ words_first l.p l.items.items l.lane
