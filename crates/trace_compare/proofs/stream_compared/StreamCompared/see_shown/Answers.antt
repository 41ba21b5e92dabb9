use Rattle.std.proofs.Common.{◌≡◌, ◌∙◌, true}
use Rattle.trace_compare.proofs.KeepLemmas.{takes_transfer}
use Rattle.trace_compare.proofs.stream_compared.StreamCompared.see_shown.Goals as goal

pub returns : goal.returns
returns c =
    let so : c.args.ready ≡ true = let told = c.if-not-ready.false in cc in
    takes_transfer c.args.want.now c.args.p.now c.args.cycle c.args.transfer.now c.args.ready c.args.self.now c.take.new.self c.as_slice.result.now c.take.result so
    (c.as_slice.ensures ∙ c.in_ok-items.ensures) c.take.ensures
