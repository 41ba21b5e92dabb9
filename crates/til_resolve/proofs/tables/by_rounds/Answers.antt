use Rattle.til_resolve.specs.Scope.{declarations_of}
use Rattle.til_resolve.proofs.EntryLemmas.{AreEntries-next}
use Rattle.til_resolve.proofs.tables.by_rounds.Goals as goal

pub rounds-preserved : goal.rounds-preserved
rounds-preserved g c =
    AreEntries-next g.E.Entries.least g.E.Entries.is_entry (declarations_of c.args.scope.now.declared) c.rounds._round c.rounds.table _ c.in_ok-table.table c.as_slice.ensures
    c.in_ok-table.ensures c.rounds.invariant
