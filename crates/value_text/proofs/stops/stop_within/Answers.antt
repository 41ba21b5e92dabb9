use Rattle.std.proofs.Common.{◌-◌, length, take, drop, refl}
use Rattle.value_text.proofs.StopLemmas.{stop-known, stop-none}
use Rattle.value_text.proofs.stops.stop_within.Goals as goal

pub returns-then-run-eq0 : goal.returns-then-run-eq0
returns-then-run-eq0 c =
    let text = c.args.text.now in
    let at = c.saturating_sub-at.result in
    stop-none text (take (length text - at) (drop at text)) c.args.left at c.run_length-run.result c.slash_length.result
    c.saturating_sub-at.ensures refl c.run_length-run.ensures.value c.if-run-eq0.true c.slash_length.ensures

pub returns : goal.returns
returns c =
    let text = c.args.text.now in
    let at = c.saturating_sub-at.result in
    stop-known text (take (length text - at) (drop at text)) c.args.left at c.run_length-run.result c.word_within.result
    c.saturating_sub-at.ensures refl c.run_length-run.ensures.value c.if-run-eq0.false c.word_within.ensures
