use Rattle.std.proofs.Common.{ap, arith}
use Rattle.physical_stream.specs.Params.{Parameters}
use Rattle.port_drive.proofs.StartLemmas.{no-run-for, starts-items}
use Rattle.port_reshape.proofs.starting.source_run.Goals as goal

pub returns-in_ok-new-in-Ok : goal.returns-in_ok-new-in-Ok
returns-in_ok-new-in-Ok c =
    let lanes = ap (λ (p : Parameters). p.lanes) c.p.view_is in
    starts-items c.args.p c.args.items c.args.plan c.args.gaps c.in-Ok.planner c.in_ok-new-in-Ok.field-0 (omega (arith, lanes, c.p.invariant.some_lane)) c.requires.masks c.in-Ok.ensures
    c.in_ok-new-in-Ok.ensures.params c.in_ok-new-in-Ok.ensures.gaps c.in_ok-new-in-Ok.ensures.whole c.in_ok-new-in-Ok.ensures.stands

pub returns-in-Err : goal.returns-in-Err
returns-in-Err c =
    let lanes = ap (λ (p : Parameters). p.lanes) c.p.view_is in
    no-run-for 0 c.args.p c.args.items c.in-Err.fault _ (omega (arith, lanes, c.p.invariant.some_lane)) c.in-Err.ensures c.undriven.ensures
