use Rattle.std.proofs.Common.{◌≡◌, replicate}
use Rattle.til_resolve.proofs.tables.least_entries.Given as goal

abbrev pub invariant-numbers : goal.invariant-numbers
invariant-numbers g l = l.table.items ≡ replicate l._number g.E.Entries.least
