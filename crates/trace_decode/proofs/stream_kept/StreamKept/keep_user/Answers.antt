use Rattle.std.proofs.Common.{◌∙◌, ap, refl, sym}
use Rattle.std.proofs.lemmas.Result.{on_ok_weaker}
use Rattle.physical_stream.specs.Params.{Parameters}
use Rattle.trace_decode.proofs.KeepLemmas.{keeps-no_user, keeps-user}
use Rattle.trace_decode.proofs.stream_kept.StreamKept.keep_user.Goals as goal

pub returns-then-p-eq0 : goal.returns-then-p-eq0
returns-then-p-eq0 c =
    keeps-no_user c.args.p.now c.args.transfer.now c.args.self.now (sym (ap (λ (p : Parameters). p.user) c.p.view_is) ∙ c.if-p-eq0.true)

pub returns : goal.returns
returns c =
    on_ok_weaker c.push.result
    (λ pushed. keeps-user c.args.p.now c.args.transfer.now c.args.self.now _ c.in_ok-user.user
    (λ none. c.if-p-eq0.false (ap (λ (p : Parameters). p.user) c.p.view_is ∙ none)) c.in_ok-user.ensures refl pushed) c.push.ensures.ok
