use Rattle.std.proofs.Common.{List, ◌∙◌, max, sym, ap, zero-le}
use Rattle.std.proofs.Math.Nat.{max-eq_left, zero-max}
use Rattle.std.proofs.lemmas.List.{drop_all}
use Rattle.physical_stream.specs.declared.head.Head.{Head}
use Rattle.cycle_trace.specs.RowLayout.{rows_room}
use Rattle.cycle_trace.proofs.RowsReadLemmas.{rows_room-more}
use Rattle.cycle_trace.proofs.reader.rows.room_for.Goals as goal

pub heads-init : goal.heads-init
heads-init c = zero-max (rows_room c.args.heads.now)

pub heads-preserved : goal.heads-preserved
heads-preserved c =
    rows_room-more c.args.heads.now c.heads.head-index c.heads.room c.max-room.result c.head-item.result c.heads.invariant c.heads-test.true c.head-item.is (c.max-room.ensures ∙ ap (max c.heads.room) c.row_room.ensures)

pub returns : goal.returns
returns c =
    sym (max-eq_left zero-le) ∙ ap (λ (heads : List Head). max c.heads.room (rows_room heads)) (sym (drop_all c.heads.head-index c.args.heads.now c.heads-test.false)) ∙ c.heads.invariant
