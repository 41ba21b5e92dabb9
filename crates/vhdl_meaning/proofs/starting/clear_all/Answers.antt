use Rattle.std.proofs.Common.{◌≡◌, ◌∙◌, ◌+◌, ◌<◌, List, length, get_or, sym, subst, ap, arith}
use Rattle.std.proofs.lemmas.List.{get_or-drop}
use Rattle.std.proofs.lemmas.Option.{slice_get-get_or}
use Rattle.physical_stream.specs.Signals.{Fits}
use Rattle.vhdl_meaning.specs.declared.lines.Lines.{Lines}
use Rattle.vhdl_meaning.proofs.starting.clear_all.Goals as goal

pub clear-requires : goal.clear-requires
clear-requires c =
    let n = c.streams.stream in
    let less : n < length c.args.lines.now = c.streams-test.true in
    let few : n < length c.args.heads.now = omega (arith, less, c.requires.long) in
    let here : n + 0 ≡ n = omega arith in
    let one = c.index-lines-stream.result in
    let same : get_or c.streams.lines n one ≡ get_or c.args.lines.now n one =
    ap (λ k. get_or c.streams.lines k one) (sym here) ∙ sym (get_or-drop n c.streams.lines 0 one) ∙ ap (λ (l : List Lines). get_or l 0 one) c.streams.invariant.left
    ∙ get_or-drop n c.args.lines.now 0 one ∙ ap (λ k. get_or c.args.lines.now k one) here in
    subst (λ (l : Lines). Fits (get_or c.args.heads.now n c.index-heads-stream.result).params l.held) (sym same)
    (c.requires.fits n (get_or c.args.heads.now n c.index-heads-stream.result) (get_or c.args.lines.now n one)
    (slice_get-get_or c.args.heads.now n c.index-heads-stream.result few) (slice_get-get_or c.args.lines.now n one less))
