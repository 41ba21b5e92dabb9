use Rattle.std.proofs.Common.{ap, arith}
use Rattle.physical_stream.specs.Params.{Parameters}
use Rattle.port_drive.proofs.StartLemmas.{no-run-for}
use Rattle.port_elastic.proofs.ChainLemmas.{plans-items}
use Rattle.port_elastic.proofs.chains.planner_of_items.Goals as goal

pub returns-in-Ok : goal.returns-in-Ok
returns-in-Ok c =
    let lanes = ap (λ (p : Parameters). p.lanes) c.p.view_is in
    plans-items c.args.p c.args.items c.args.plan c.in-Ok.planner (omega (arith, lanes, c.p.invariant.some_lane)) c.requires.masks c.in-Ok.ensures

pub returns-in-Err : goal.returns-in-Err
returns-in-Err c =
    let lanes = ap (λ (p : Parameters). p.lanes) c.p.view_is in
    no-run-for c.args.number c.args.p c.args.items c.in-Err.fault _ (omega (arith, lanes, c.p.invariant.some_lane)) c.in-Err.ensures c.undriven.ensures
