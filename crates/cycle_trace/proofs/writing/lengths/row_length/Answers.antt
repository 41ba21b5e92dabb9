use Rattle.std.proofs.Common.{◌≡◌, Option, Some, length, ap, arith}
use Rattle.std.specs.Option.{option_copied}
use Rattle.physical_stream.specs.Cycles.{cycle_in}
use Rattle.physical_stream.specs.declared.transfer.Transfer.{Transfer}
use Rattle.cycle_trace.specs.Spelling.{payload_words}
use Rattle.cycle_trace.specs.Writing.{spaced}
use Rattle.cycle_trace.proofs.TextLengthLemmas.{length-row_text}
use Rattle.cycle_trace.proofs.writing.lengths.row_length.Goals as goal

pub returns-in-Some : goal.returns-in-Some
returns-in-Some c =
    let p = c.args.params.now in
    let shown : option_copied c.args.row.shown ≡ Some c.in-Some.transfer.now = ap option_copied c.in-Some.is in
    omega (arith, length-row_text p (cycle_in c.args.row), c.payload_length.ensures.bytes, ap (λ (x : Option Transfer). length (spaced (payload_words p x))) shown)
