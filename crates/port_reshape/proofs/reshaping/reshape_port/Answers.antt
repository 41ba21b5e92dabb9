use Rattle.std.proofs.Common.{ap, length}
use Rattle.logical_value.specs.Tree.{plain_port}
use Rattle.type_split.specs.Streams.{plain_split}
use Rattle.port_reshape.specs.Starting.{text_left}
use Rattle.port_reshape.proofs.TraceLemmas.{can-pass, may-reshape, one-there, rows-shown, run-err, seen, traced}
use Rattle.port_reshape.proofs.reshaping.reshape_port.Goals as goal

pub run_between-requires : goal.run_between-requires
run_between-requires c =
    let may = may-reshape (plain_split c.args.split.now) (plain_port c.args.value.now) c.args.plan c.args.lanes c.args.level c.requires.split c.heads_stand_together.ensures.form c.requires.value c.requires.plan c.requires.port c.requires.some c.requires.most c.level_is_in_form.ensures in
    let streams = one-there c.args.split.now.streams c.as_slice.result.now c.args.level c.index-as_slice-0.result c.as_slice.ensures c.index-as_slice-0.is c.requires.port in
    let items = seen (plain_split c.args.split.now) (plain_port c.args.value.now) c.index-as_slice-0.result c.in_ok-items.items streams c.requires.split c.requires.value c.in_ok-items.ensures in
    can-pass (plain_split c.args.split.now) (plain_port c.args.value.now) c.args.plan c.args.lanes c.args.level may c.index-as_slice-0.result c.only_plan.result streams c.only_plan.ensures c.far_side-to.result c.far_side-to.ensures c.in_ok-items.items items

pub returns-in_err-run-clause-text : goal.returns-in_err-run-clause-text
returns-in_err-run-clause-text c =
    let may = may-reshape (plain_split c.args.split.now) (plain_port c.args.value.now) c.args.plan c.args.lanes c.args.level c.requires.split c.heads_stand_together.ensures.form c.requires.value c.requires.plan c.requires.port c.requires.some c.requires.most c.level_is_in_form.ensures in
    let streams = one-there c.args.split.now.streams c.as_slice.result.now c.args.level c.index-as_slice-0.result c.as_slice.ensures c.index-as_slice-0.is c.requires.port in
    let items = seen (plain_split c.args.split.now) (plain_port c.args.value.now) c.index-as_slice-0.result c.in_ok-items.items streams c.requires.split c.requires.value c.in_ok-items.ensures in
    run-err (plain_split c.args.split.now) (plain_port c.args.value.now) c.args.plan c.args.lanes c.args.level may c.index-as_slice-0.result c.only_plan.result streams c.only_plan.ensures c.far_side-to.result c.far_side-to.ensures c.in_ok-items.items items
    (λ trace. text_left trace.pieces) c.from_residual-in_err-run.result c.in_err-run.field-0.0 c.from_residual-in_err-run.ensures.1 c.in_err-run.ensures.run

pub trace_of_run-requires-clause-shown : goal.trace_of_run-requires-clause-shown
trace_of_run-requires-clause-shown c =
    let may = may-reshape (plain_split c.args.split.now) (plain_port c.args.value.now) c.args.plan c.args.lanes c.args.level c.requires.split c.heads_stand_together.ensures.form c.requires.value c.requires.plan c.requires.port c.requires.some c.requires.most c.level_is_in_form.ensures in
    let streams = one-there c.args.split.now.streams c.as_slice.result.now c.args.level c.index-as_slice-0.result c.as_slice.ensures c.index-as_slice-0.is c.requires.port in
    let items = seen (plain_split c.args.split.now) (plain_port c.args.value.now) c.index-as_slice-0.result c.in_ok-items.items streams c.requires.split c.requires.value c.in_ok-items.ensures in
    rows-shown (plain_split c.args.split.now) (plain_port c.args.value.now) c.args.plan c.args.lanes c.args.level may c.index-as_slice-0.result c.only_plan.result streams c.only_plan.ensures c.far_side-to.result c.far_side-to.ensures c.in_ok-items.items items
    c.in_ok-run.run' c.in_ok-run.ensures.run c.in_ok-run.ensures.to c.in_ok-run.ensures.number c.in_ok-streams.streams c.in_ok-streams.ensures

pub trace_of_run-requires-clause-many : goal.trace_of_run-requires-clause-many
trace_of_run-requires-clause-many c = ap length c.in_ok-streams.ensures

pub returns-clause-text : goal.returns-clause-text
returns-clause-text c =
    let may = may-reshape (plain_split c.args.split.now) (plain_port c.args.value.now) c.args.plan c.args.lanes c.args.level c.requires.split c.heads_stand_together.ensures.form c.requires.value c.requires.plan c.requires.port c.requires.some c.requires.most c.level_is_in_form.ensures in
    let streams = one-there c.args.split.now.streams c.as_slice.result.now c.args.level c.index-as_slice-0.result c.as_slice.ensures c.index-as_slice-0.is c.requires.port in
    let items = seen (plain_split c.args.split.now) (plain_port c.args.value.now) c.index-as_slice-0.result c.in_ok-items.items streams c.requires.split c.requires.value c.in_ok-items.ensures in
    traced (plain_split c.args.split.now) (plain_port c.args.value.now) c.args.plan c.args.lanes c.args.level may c.index-as_slice-0.result c.only_plan.result streams c.only_plan.ensures c.far_side-to.result c.far_side-to.ensures c.in_ok-items.items items
    c.in_ok-run.run' c.in_ok-run.ensures.run c.in_ok-run.ensures.to c.in_ok-run.ensures.number c.in_ok-streams.streams c.in_ok-streams.ensures
    (λ trace. text_left trace.pieces) c.in_ok-header.header c.trace_of_run.result c.in_ok-header.ensures c.trace_of_run.ensures.finishes c.trace_of_run.ensures.text
