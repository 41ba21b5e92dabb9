use Rattle.std.proofs.Common.{◌≡◌, ◌∙◌, ◌<◌, List, ℕ, length, get_or, min, sym, ap, subst, arith}
use Rattle.std.specs.Fmt.{decimal}
use Rattle.std.specs.List.{flat_map}
use Rattle.std.proofs.lemmas.List.{take_all}
use Rattle.physical_stream.specs.declared.head.Head.{Head}
use Rattle.tydi_base.specs.Lengths.{most_bytes}
use Rattle.physical_stream.specs.StreamLine.{head_text}
use Rattle.cycle_trace.specs.Version.{version_of}
use Rattle.cycle_trace.proofs.TextLengthLemmas.{length-header_text}
use Rattle.tydi_base.proofs.LengthLemmas.{length-parts_more}
use Rattle.cycle_trace.proofs.writing.lengths.header_length.Goals as goal

pub heads-init : goal.heads-init
heads-init c = omega (arith, c.decimal_length-length.ensures.digits ∙ ap (λ (n : ℕ). length (decimal n)) c.from.ensures, c.decimal_length-length.ensures.few)

pub heads-preserved : goal.heads-preserved
heads-preserved c =
    let heads = c.args.header.now.heads in
    let head = c.head-item.result in
    let is = subst (λ (xs : List Head). head ≡ get_or xs c.heads.head-index head) c.as_slice-head-items.ensures c.head-item.is in
    let within = subst (λ (xs : List Head). c.heads.head-index < length xs) c.as_slice-head-items.ensures c.heads-test.true in
    omega (arith, c.heads.invariant, c.head_length.ensures, c.saturating_add-length.ensures, length-parts_more head_text heads c.heads.head-index head within is)

pub returns : goal.returns
returns c =
    let header = c.args.header.now in
    let past = rw c.as_slice-head-items.ensures at c.heads-test.false in
    subst (λ (n : ℕ). c.heads.length ≡ min n most_bytes) (sym (length-header_text (version_of header.heads) header.cycles header.heads))
    (omega (arith, c.heads.invariant, ap (λ (heads : List Head). length (flat_map head_text heads)) (take_all c.heads.head-index header.heads past)))
