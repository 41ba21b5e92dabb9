use Rattle.logical_value.specs.Tree.{plain_port}
use Rattle.type_split.specs.Streams.{plain_split}
use Rattle.port_drive.specs.Starting.{runs_of_port}
use Rattle.port_gen.specs.Jobs.{reason_in}
use Rattle.port_gen.proofs.StartLemmas.{rest-err, rest-made, rest-ok, rest-start, rest-told, resting-fits}
use Rattle.port_gen.proofs.starting.driven_at_rest.Goals as goal

pub port_run-requires-clause-plan : goal.port_run-requires-clause-plan
port_run-requires-clause-plan c = resting-fits c.args.split.now.streams c.as_slice.result.now c.in_ok-plan.plan c.as_slice.ensures c.in_ok-plan.ensures

pub undriven-requires : goal.undriven-requires
undriven-requires c =
    rest-told (plain_split c.args.split.now) (plain_port c.args.value.now) c.as_slice.result.now c.in_ok-plan.plan c.as_slice.ensures c.in_ok-plan.ensures c.in-Err.fault c.in-Err.ensures.runs

pub returns-in-Ok-clause-runs : goal.returns-in-Ok-clause-runs
returns-in-Ok-clause-runs c =
    rest-ok (plain_split c.args.split.now) (plain_port c.args.value.now) c.as_slice.result.now c.in_ok-plan.plan c.as_slice.ensures c.in_ok-plan.ensures runs_of_port c.in-Ok.run' c.in-Ok.ensures.runs

pub returns-in-Ok-clause-start : goal.returns-in-Ok-clause-start
returns-in-Ok-clause-start c =
    rest-start (plain_split c.args.split.now) (plain_port c.args.value.now) c.as_slice.result.now c.in_ok-plan.plan c.as_slice.ensures c.in_ok-plan.ensures c.in-Ok.run' c.in-Ok.ensures.start

pub returns-in-Ok-clause-many : goal.returns-in-Ok-clause-many
returns-in-Ok-clause-many c =
    rest-made (plain_split c.args.split.now) (plain_port c.args.value.now) c.as_slice.result.now c.in_ok-plan.plan c.as_slice.ensures c.in_ok-plan.ensures (runs_of_port c.in-Ok.run') c.in-Ok.ensures.runs

pub returns-in-Err-clause-runs : goal.returns-in-Err-clause-runs
returns-in-Err-clause-runs c =
    rest-err (plain_split c.args.split.now) (plain_port c.args.value.now) c.as_slice.result.now c.in_ok-plan.plan c.as_slice.ensures c.in_ok-plan.ensures c.in-Err.fault (reason_in c.undriven.result) c.undriven.ensures
    c.in-Err.ensures.runs
