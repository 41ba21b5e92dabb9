use Rattle.std.proofs.Common.{subst, sym}
use Rattle.scheduler.specs.Laws.{AreItems}
use Rattle.port_reshape.proofs.StartLemmas.{far-err, far-of, far-planned, fit-far, near-fits, source-is}
use Rattle.port_reshape.proofs.starting.run_between.Goals as goal

pub far_items-far-requires : goal.far_items-far-requires
far_items-far-requires c = subst (AreItems c.args.to) (sym c.as_slice.ensures) (fit-far c.args.from c.args.to c.args.items c.args.plan c.requires)

pub returns-in_err-reshaper-clause-run : goal.returns-in_err-reshaper-clause-run
returns-in_err-reshaper-clause-run c =
    far-err c.args.from c.args.to c.args.items c.args.plan c.requires c.far_items-far.result (far-of c.args.to c.as_slice.result.now c.args.items c.as_slice.ensures c.far_items-far.result c.far_items-far.ensures)
    c.in_ok-near.near c.in_ok-near.ensures c.from_residual-in_err-reshaper.result c.in_err-reshaper.field-0.0 c.from_residual-in_err-reshaper.ensures.1 c.in_err-reshaper.ensures

pub new-requires-3-clause-fits : goal.new-requires-3-clause-fits
new-requires-3-clause-fits c =
    near-fits c.args.from c.args.to c.args.items c.args.plan c.requires c.far_items-far.result (far-of c.args.to c.as_slice.result.now c.args.items c.as_slice.ensures c.far_items-far.result c.far_items-far.ensures)
    c.in_ok-near.near c.in_ok-near.ensures

pub new-requires-3-clause-planned : goal.new-requires-3-clause-planned
new-requires-3-clause-planned c =
    far-planned c.args.from c.args.to c.args.items c.args.plan c.requires c.far_items-far.result (far-of c.args.to c.as_slice.result.now c.args.items c.as_slice.ensures c.far_items-far.result c.far_items-far.ensures)
    c.in_ok-near.near c.in_ok-near.ensures c.in_ok-reshaper.reshaper c.in_ok-reshaper.ensures.2

pub returns-clause-run : goal.returns-clause-run
returns-clause-run c =
    source-is c.args.from c.args.to c.args.items c.args.plan c.requires c.far_items-far.result (far-of c.args.to c.as_slice.result.now c.args.items c.as_slice.ensures c.far_items-far.result c.far_items-far.ensures)
    c.in_ok-near.near c.in_ok-near.ensures c.in_ok-new.field-0 c.in_ok-reshaper.ensures.0 c.in_ok-new.ensures.near c.in_ok-new.ensures.ready
