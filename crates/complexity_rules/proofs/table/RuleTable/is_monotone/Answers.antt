use Rattle.std.proofs.Common.{arith}
use Rattle.complexity_rules.proofs.TableLemmas.{rows_more, rows_stop, rows_end}
use Rattle.complexity_rules.proofs.table.RuleTable.is_monotone.Goals as goal

pub returns-then-not-is_monotone_row : goal.returns-then-not-is_monotone_row
returns-then-not-is_monotone_row g c =
    rows_stop c.args.self.now.cells c.rows.row-index c.is_monotone_row.result (omega arith) c.if-not-is_monotone_row.true c.is_monotone_row.ensures

pub rows-preserved : goal.rows-preserved
rows-preserved g c = rows_more c.args.self.now.cells c.rows.row-index (c.is_monotone_row.ensures.0 c.if-not-is_monotone_row.false) c.rows.invariant

pub returns : goal.returns
returns g c = rows_end c.args.self.now.cells c.rows.row-index (omega arith) c.rows.invariant
