use Rattle.std.proofs.Common.{◌∙◌, ap, arith}
use Rattle.physical_stream.specs.Params.{Parameters}
use Rattle.scheduler.proofs.ScheduleLemmas.{multiple-rest}
use Rattle.scheduler.proofs.multiple.is_multiple.Goals as goal

pub returns-then-is_whole-clause-multiple : goal.returns-then-is_whole-clause-multiple
returns-then-is_whole-clause-multiple c =
    let lanes = ap (λ (p : Parameters). p.lanes) c.p.view_is in
    multiple-rest c.args.p.now c.args.items.now c.from.result (omega (arith, lanes, c.p.invariant.some_lane)) (c.from.ensures ∙ lanes) (c.is_whole.ensures.0 c.if-is_whole.true)
