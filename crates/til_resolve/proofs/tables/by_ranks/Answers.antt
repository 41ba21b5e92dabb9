use Rattle.std.proofs.Common.{get_or, refl, ap, ◌∙◌, arith}
use Rattle.til_resolve.specs.Scope.{declarations_of}
use Rattle.til_resolve.proofs.EntryLemmas.{AreEntriesBelow-more, AreEntriesBelow-past, AreEntriesBelow-all}
use Rattle.til_resolve.proofs.tables.by_ranks.Goals.{then-number-len+then-rank_of-rank+in_ok-entry, else-number-len, else-number-len-via-then-number-len+else-rank_of-rank, else-number-len-via-else-number-len}
use Rattle.til_resolve.proofs.tables.by_ranks.Goals as goal

pub walk-preserved : goal.walk-preserved
walk-preserved g c =
    let all = declarations_of c.args.scope.now.declared in
    let number = get_or c.args.order.now c.walk.rank 0 in
    elim c.if-number-len.branch [
      | then-number-len+then-rank_of-rank+in_ok-entry w ↦
          AreEntriesBelow-more g.E.Entries.least g.E.Entries.is_entry all c.args.ranks.now c.args.order.now c.args.graph.now c.requires.graph c.requires.ranked c.requires.ordered
          c.walk.table.items w.as_slice.result.now c.if-number-len.table.items c.walk.rank number w.in_ok-entry.entry refl (omega (arith, w.if-number-len.true, c.len-in-walk.ensures))
          (omega (arith, w.rank_of.ensures, w.if-rank_of-rank.true)) w.as_slice.ensures.value w.in_ok-entry.ensures (ap (λ t. t.items) w.table-is ∙ w.put.ensures) c.walk.invariant
      | else-number-len w ↦
          AreEntriesBelow-past g.E.Entries.least g.E.Entries.is_entry all c.args.ranks.now c.args.order.now c.args.graph.now c.requires.graph c.requires.ranked c.requires.ordered
          c.walk.table.items c.if-number-len.table.items c.walk.rank number refl (ap (λ t. t.items) w.table-is)
          (elim w.else-number-len.branch [
            | else-number-len-via-then-number-len+else-rank_of-rank v ↦ λ _ same. omega (arith, v.rank_of.ensures, v.if-rank_of-rank.false, same)
            | else-number-len-via-else-number-len v ↦ λ within _. omega (arith, v.if-number-len.false, c.len-in-walk.ensures, within)
          ])
          c.walk.invariant
    ]

pub returns : goal.returns
returns g c =
    AreEntriesBelow-all g.E.Entries.least g.E.Entries.is_entry (declarations_of c.args.scope.now.declared) c.args.ranks.now c.args.order.now c.args.graph.now c.requires.graph c.requires.ranked
    c.requires.ordered c.walk.table.items c.from_vec.result c.walk.rank c.walk-test.false c.from_vec.ensures c.walk.invariant
