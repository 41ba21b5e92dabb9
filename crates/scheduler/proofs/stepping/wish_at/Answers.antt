use Rattle.std.proofs.Common.{◌∙◌, ◌-◌, ◌^◌, sym, ap}
use Rattle.physical_stream.specs.Params.{Parameters}
use Rattle.scheduler.proofs.StepLemmas.{wish-there, wish-none, whole-wish}
use Rattle.scheduler.proofs.stepping.wish_at.Goals as goal

pub returns-in-Some : goal.returns-in-Some
returns-in-Some c = wish-there c.args.p.now c.args.plan.now.wishes c.args.number c.in-Some.wish.now (sym c.in-Some.ensures.value)

pub returns-in-None : goal.returns-in-None
returns-in-None c =
    ap whole-wish (c.all_lanes.ensures ∙ ap (λ (p : Parameters). 2 ^ p.lanes - 1) c.p.view_is) ∙ sym (wish-none c.args.p.now c.args.plan.now.wishes c.args.number (sym c.in-None.ensures.value))
