use Rattle.cycle_trace.proofs.ViewLemmas.{row_within, row_in-row, row-shown}
use Rattle.cycle_trace.proofs.trace.Trace.row.Goals as goal

pub bounds-as_slice-cycle : goal.bounds-as_slice-cycle
bounds-as_slice-cycle c =
    let trace = c.args.self.now in
    rw (c.len.ensures, c.as_slice.ensures) (row_within trace.header trace.rows trace.whole c.args.cycle c.args.stream c.requires.cycle_in c.requires.stream_in)

pub returns-clause-row : goal.returns-clause-row
returns-clause-row c =
    let trace = c.args.self.now in
    let is = rw (c.len.ensures, c.as_slice.ensures) at c.index-as_slice-cycle.is in
    rw c.as_ref.ensures.value (row_in-row trace.header trace.rows trace.whole c.args.cycle c.args.stream c.requires.cycle_in c.requires.stream_in c.index-as_slice-cycle.result is)

pub returns-clause-shown : goal.returns-clause-shown
returns-clause-shown c =
    let trace = c.args.self.now in
    let is = rw (c.len.ensures, c.as_slice.ensures) at c.index-as_slice-cycle.is in
    rw c.as_ref.ensures.value (row-shown trace.header trace.rows trace.whole c.args.cycle c.args.stream c.requires.cycle_in c.requires.stream_in c.index-as_slice-cycle.result is)
