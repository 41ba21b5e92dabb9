use Rattle.til_resolve.specs.Scope.{declarations_of}
use Rattle.til_resolve.specs.Tables.{AreEntries}
use Rattle.til_resolve.proofs.tables.by_rounds.Given as goal

abbrev pub invariant-rounds : goal.invariant-rounds
invariant-rounds g l = AreEntries g.E.Entries.least g.E.Entries.is_entry (declarations_of l.scope.declared) l._round l.table
