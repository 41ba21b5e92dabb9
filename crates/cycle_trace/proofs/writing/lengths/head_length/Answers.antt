use Rattle.std.proofs.Common.{◌≡◌, ◌∙◌, ℕ, length, min, sym, ap, subst, arith}
use Rattle.std.specs.Fmt.{decimal}
use Rattle.tydi_base.specs.Level.{level_text}
use Rattle.physical_stream.specs.Params.{Parameters}
use Rattle.tydi_base.specs.Lengths.{most_bytes}
use Rattle.cycle_trace.proofs.TextLengthLemmas.{length-head_text}
use Rattle.cycle_trace.proofs.writing.lengths.head_length.Goals as goal

pub returns : goal.returns
returns c =
    let digits = λ (n : ℕ). length (decimal n) in
    subst (λ (n : ℕ). c.saturating_add.result ≡ min n most_bytes) (sym (length-head_text c.args.head.now))
    (omega (
      arith,
      c.saturating_add.ensures,
      c.dotted_length.ensures,
      c.decimal_length-lanes.ensures.digits ∙ ap digits (c.from.ensures ∙ ap (λ (q : Parameters). q.lanes) c.p.view_is),
      c.decimal_length-dims.ensures.digits ∙ ap digits (c.from-2.ensures ∙ ap (λ (q : Parameters). q.dims) c.p.view_is),
      c.text_length-level.ensures.bytes ∙ ap (λ (q : Parameters). length (level_text q.level)) c.p.view_is,
      c.decimal_length-element.ensures.digits ∙ ap digits (c.from-3.ensures ∙ ap (λ (q : Parameters). q.element) c.p.view_is),
      c.decimal_length-user.ensures.digits ∙ ap digits (c.from-4.ensures ∙ ap (λ (q : Parameters). q.user) c.p.view_is),
    ))
