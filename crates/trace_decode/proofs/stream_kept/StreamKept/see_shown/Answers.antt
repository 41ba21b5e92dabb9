use Rattle.std.proofs.Common.{◌≡◌, true}
use Rattle.trace_decode.proofs.KeepLemmas.{keeps-done_if}
use Rattle.trace_decode.proofs.stream_kept.StreamKept.see_shown.Goals as goal

pub returns-clause-kept : goal.returns-clause-kept
returns-clause-kept c cycles keeps =
    let ready : c.args.ready ≡ true = let told = c.if-not-ready.false in cc in
    keeps-done_if c.args.p.now cycles c.args.self.now c.take.new.self keeps c.args.transfer.now c.keep_user.new.self c.args.ready c.take.result ready c.requires.fits
    c.in_ok-keep_user.ensures c.take.ensures.taken
