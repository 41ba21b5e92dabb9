use Rattle.til_resolve.specs.Scope.{declarations_of}
use Rattle.til_resolve.specs.Tables.{AreMadeOf}
use Rattle.til_resolve.proofs.tables.next_round.Given as goal

abbrev pub invariant-numbers : goal.invariant-numbers
invariant-numbers g l = AreMadeOf g.E.Entries.least g.E.Entries.is_entry (declarations_of l.scope.declared) l.table l.number l.next
