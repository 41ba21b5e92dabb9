use Rattle.std.proofs.Common.{◌≡◌, true, drop}
use Rattle.complexity_rules.proofs.TableLemmas.{falls_after}
use Rattle.complexity_rules.proofs.table.is_monotone_row.Given as goal

abbrev pub invariant-cells : goal.invariant-cells
invariant-cells l = falls_after l.last (drop l.cell-index l.row) ≡ falls_after true l.row
