use Rattle.std.proofs.Common.{◌∙◌, ℕ, ◌+◌, ◌/◌, is_some, length, ap, sym, arith}
use Rattle.std.specs.Fmt.{decimal}
use Rattle.tydi_base.specs.Bits.{bits_of}
use Rattle.tydi_base.proofs.BitsLemmas.{length-bits_of}
use Rattle.physical_stream.specs.Params.{Parameters}
use Rattle.tydi_base.proofs.HexLemmas.{length-hex_of}
use Rattle.cycle_trace.proofs.TextLengthLemmas.{length-signals, signal_bytes}
use Rattle.cycle_trace.proofs.writing.lengths.signals_length.Goals as goal

pub returns-clause-bytes : goal.returns-clause-bytes
returns-clause-bytes c =
    let t = c.args.transfer.now in
    let p = c.args.params.now in
    let found = c.of-widths.result in
    let strb = bits_of p.lanes t.strb in
    let content = c.hex_length.ensures.digits ∙ ap (λ (n : ℕ). (n + 3) / 4) c.len.ensures ∙ sym (length-hex_of t.content) in
    let last = c.hex_length-2.ensures.digits ∙ ap (λ (n : ℕ). (n + 3) / 4) c.len-2.ensures ∙ sym (length-hex_of t.last) in
    let stai = c.decimal_length.ensures.digits ∙ ap (λ (n : ℕ). length (decimal n)) c.from.ensures in
    let endi = c.decimal_length-2.ensures.digits ∙ ap (λ (n : ℕ). length (decimal n)) c.from-2.ensures in
    let bits = c.hex_length-3.ensures.digits ∙ ap (λ (n : ℕ). (n + 3) / 4) (c.from-3.ensures ∙ ap (λ (q : Parameters). q.lanes) c.params.view_is ∙ sym (length-bits_of p.lanes t.strb)) ∙ sym (length-hex_of strb) in
    let user = c.hex_length-4.ensures.digits ∙ ap (λ (n : ℕ). (n + 3) / 4) c.len-3.ensures ∙ sym (length-hex_of t.user) in
    omega (
      arith,
      length-signals found p t c.of-widths.ensures,
      c.signal_length-content.ensures ∙ ap (signal_bytes (is_some found.content)) content,
      c.signal_length-last.ensures ∙ ap (signal_bytes (is_some found.last)) last,
      c.signal_length-stai.ensures ∙ ap (signal_bytes (is_some found.stai)) stai,
      c.signal_length-endi.ensures ∙ ap (signal_bytes (is_some found.endi)) endi,
      c.signal_length-strb.ensures ∙ ap (signal_bytes (is_some found.strb)) bits,
      c.signal_length-user.ensures ∙ ap (signal_bytes (is_some found.user)) user,
    )
