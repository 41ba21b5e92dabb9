use Rattle.std.proofs.Common.{◌≡◌, ◌∙◌, ap}
use Rattle.tydi_base.specs.Bits.{bits_of}
use Rattle.physical_stream.specs.Params.{Parameters}
use Rattle.cycle_trace.proofs.RowLengthLemmas.{row_written}
use Rattle.cycle_trace.proofs.writing.write_row.Goals as goal

pub returns-clause-ok : goal.returns-clause-ok
returns-clause-ok c =
    let p = c.args.params.now in
    let t = c.in-Some.transfer.now in
    let strb : c.in_ok-strb.strb ≡ bits_of p.lanes t.strb = c.in_ok-strb.ensures ∙ ap (λ (q : Parameters). bits_of q.lanes t.strb) c.params.view_is in
    rw (c.in-Some.is, row_written p c.args.row.ready t, ← c.bit_digit-2.ensures, ← strb) c.emit-2.ensures.ok
