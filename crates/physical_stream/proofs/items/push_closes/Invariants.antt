use Rattle.std.proofs.Common.{◌≡◌, ◌++◌}
use Rattle.physical_stream.specs.Items.{parts_below}
use Rattle.physical_stream.proofs.ItemsLemmas.{close_at}
use Rattle.physical_stream.proofs.items.push_closes.Given as goal

abbrev pub invariant-dims : goal.invariant-dims
invariant-dims l = l.items ≡ l.initial.items ++ parts_below (close_at l.p l.transfer l.lane) l.dim
