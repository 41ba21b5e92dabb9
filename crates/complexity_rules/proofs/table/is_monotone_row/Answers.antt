use Rattle.complexity_rules.proofs.TableLemmas.{row_stops, row_ends}
use Rattle.complexity_rules.proofs.table.is_monotone_row.Goals as goal

pub returns-then-not-last : goal.returns-then-not-last
returns-then-not-last c = row_stops c.args.row.now c.cells.last c.cells.cell-index c.cells-test.true c.if-not-last.true c.if-cell.true c.cells.invariant

pub returns : goal.returns
returns c = row_ends c.args.row.now c.cells.last c.cells.cell-index c.cells-test.false c.cells.invariant
