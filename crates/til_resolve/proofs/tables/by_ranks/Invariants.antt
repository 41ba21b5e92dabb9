use Rattle.til_resolve.specs.Scope.{declarations_of}
use Rattle.til_resolve.specs.Tables.{AreEntriesBelow}
use Rattle.til_resolve.proofs.tables.by_ranks.Given as goal

-- the entries of the ranks so far are made
abbrev pub invariant-walk : goal.invariant-walk
invariant-walk g l = AreEntriesBelow g.E.Entries.least g.E.Entries.is_entry (declarations_of l.scope.declared) l.ranks l.rank l.table.items
