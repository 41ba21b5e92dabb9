use Rattle.std.proofs.Common.{◌≡◌, ◌∙◌, Bool, List, ap, sym}
use Rattle.std.proofs.lemmas.Result.{IfOk-weaker}
use Rattle.physical_stream.specs.Items.{lane_word}
use Rattle.physical_stream.specs.Params.{Parameters}
use Rattle.trace_decode.proofs.KeepLemmas.{only_word}
use Rattle.trace_decode.proofs.stream_kept.element_word.Goals as goal

pub returns-then-p-eq1 : goal.returns-then-p-eq1
returns-then-p-eq1 c =
    let content = c.args.transfer.now.content in
    let one : c.args.p.now.lanes ≡ 1 = sym (ap (λ (p : Parameters). p.lanes) c.p.view_is) ∙ c.if-p-eq1.true in
    IfOk-weaker c.try_clone.result (λ (word : List Bool). word ≡ content) (λ (word : List Bool). word ≡ lane_word c.args.p.now c.args.transfer.now c.args.lane)
    (λ word is. is ∙ only_word c.args.p.now c.args.transfer.now c.args.lane one c.requires.within c.requires.fits) c.try_clone.ensures
