use Rattle.cycle_trace.proofs.RowFormLemmas.{goes-Payload, goes-Payload_dash}
use Rattle.cycle_trace.proofs.row.form.after_payload.Goals as goal

pub returns-then-byte-eq45 : goal.returns-then-byte-eq45
returns-then-byte-eq45 c = rw c.if-byte-eq45.true goes-Payload_dash

pub returns : goal.returns
returns c = goes-Payload c.args.byte c.after_signal.result c.if-byte-eq45.false c.after_signal.ensures
