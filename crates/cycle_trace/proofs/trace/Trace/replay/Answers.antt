use Rattle.std.proofs.Common.{◌≡◌, ◌∙◌, ◌<◌, List, length, get_or, Option, Some, ap, sym, subst}
use Rattle.physical_stream.specs.Cycles.{Cycle}
use Rattle.physical_stream.specs.declared.transfer.Transfer.{Transfer}
use Rattle.cycle_trace.specs.RowSink.{CanTake, with_row}
use Rattle.cycle_trace.specs.Trace.{TraceText}
use Rattle.cycle_trace.specs.declared.trace.OwnRow.{OwnRow}
use Rattle.cycle_trace.proofs.KeepLemmas.{first_rows, replay_can, replay_next}
use Rattle.cycle_trace.proofs.trace.Trace.replay.Goals as goal

pub row-requires : goal.row-requires
row-requires g c =
    let trace = c.args.self.now in
    let item = c.row-item.result in
    let is = subst (λ (rows : List OwnRow). item ≡ get_or rows c.rows.row-index item) c.as_slice-row-items.ensures c.row-item.is in
    let within = subst (λ (rows : List OwnRow). c.rows.row-index < length rows) c.as_slice-row-items.ensures c.rows-test.true in
    let same = ap (λ (shown : Option Transfer). let cycle : Cycle = record { ready = item.ready; shown = shown } in cycle) c.as_ref.ensures.value in
    let can = replay_can trace.header trace.rows trace.whole c.rows.row-index within item is in
    (first_rows trace.header trace.rows c.rows.row-index, (c.rows.invariant.0, subst (λ (cycle : Cycle). CanTake (first_rows trace.header trace.rows c.rows.row-index) cycle) (sym same) can))

pub rows-preserved : goal.rows-preserved
rows-preserved g c =
    let trace = c.args.self.now in
    let item = c.row-item.result in
    let is = subst (λ (rows : List OwnRow). item ≡ get_or rows c.rows.row-index item) c.as_slice-row-items.ensures c.row-item.is in
    let within = subst (λ (rows : List OwnRow). c.rows.row-index < length rows) c.as_slice-row-items.ensures c.rows-test.true in
    let same = ap (λ (shown : Option Transfer). let cycle : Cycle = record { ready = item.ready; shown = shown } in cycle) c.as_ref.ensures.value in
    let can = subst (λ (cycle : Cycle). CanTake (first_rows trace.header trace.rows c.rows.row-index) cycle) (sym same) (replay_can trace.header trace.rows trace.whole c.rows.row-index within item is) in
    let stands = subst (λ (t : TraceText). g.K.RowSink.stands_for c.row.new.self (Some t))
    (ap (with_row (first_rows trace.header trace.rows c.rows.row-index)) same ∙ replay_next trace.header trace.rows trace.whole c.rows.row-index within item is)
    (c.in_ok-row.ensures.taken (first_rows trace.header trace.rows c.rows.row-index) c.rows.invariant.0 can) in
    (stands, c.in_ok-row.ensures.setting ∙ c.rows.invariant.1)
