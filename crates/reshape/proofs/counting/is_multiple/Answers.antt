use Rattle.std.proofs.Common.{◌∙◌, ap, arith}
use Rattle.physical_stream.specs.Params.{Parameters}
use Rattle.scheduler.proofs.ScheduleLemmas.{multiple-rest}
use Rattle.reshape.proofs.counting.is_multiple.Goals as goal

pub returns-then-is_whole : goal.returns-then-is_whole
returns-then-is_whole c =
    let lanes = ap (λ (p : Parameters). p.lanes) c.to.view_is in
    multiple-rest c.args.to.now c.args.items.now c.from.result (omega (arith, lanes, c.to.invariant.some_lane)) (c.from.ensures ∙ lanes) (c.is_whole.ensures.0 c.if-is_whole.true)
