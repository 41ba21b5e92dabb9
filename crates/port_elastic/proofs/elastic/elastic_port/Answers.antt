use Rattle.logical_value.specs.Tree.{plain_port}
use Rattle.type_split.specs.Streams.{plain_split}
use Rattle.port_elastic.specs.PortText.{text_left}
use Rattle.port_elastic.proofs.TraceLemmas.{left-all, run-many, run-shown, run-traced}
use Rattle.port_elastic.proofs.elastic.elastic_port.Goals as goal

pub trace_of_run-requires-clause-shown : goal.trace_of_run-requires-clause-shown
trace_of_run-requires-clause-shown c =
    run-shown (plain_split c.args.split.now) (plain_port c.args.value.now) c.args.plan c.args.net c.in_ok-run.run' c.in_ok-run.ensures.start
    (record { drive = record { port = c.requires.split; heads = c.heads_stand_together.ensures.form; value_fits = c.requires.value; plan_fits = c.requires.plan }; net_fits = c.requires.net; high = c.requires.high })
    c.in_ok-run.ensures.runs c.in_ok-run.ensures.net.0 c.in_ok-run.ensures.net.1 c.in_ok-streams.streams c.as_slice-2.result.now c.in_ok-streams.ensures c.as_slice-2.ensures

pub trace_of_run-requires-clause-many : goal.trace_of_run-requires-clause-many
trace_of_run-requires-clause-many c =
    run-many (plain_split c.args.split.now) (plain_port c.args.value.now) c.args.plan c.args.net c.in_ok-run.run' c.in_ok-run.ensures.start
    (record { drive = record { port = c.requires.split; heads = c.heads_stand_together.ensures.form; value_fits = c.requires.value; plan_fits = c.requires.plan }; net_fits = c.requires.net; high = c.requires.high })
    c.in_ok-run.ensures.runs c.in_ok-run.ensures.net.0 c.in_ok-run.ensures.net.1 c.in_ok-streams.streams c.as_slice-2.result.now c.in_ok-streams.ensures c.as_slice-2.ensures

pub trace_of_run-requires-clause-start : goal.trace_of_run-requires-clause-start
trace_of_run-requires-clause-start c = left-all c.args.plan.cycles c.in_ok-run.run' c.in_ok-run.ensures.start

pub returns-clause-text : goal.returns-clause-text
returns-clause-text c =
    run-traced (plain_split c.args.split.now) (plain_port c.args.value.now) c.args.plan c.args.net c.in_ok-run.run' c.in_ok-run.ensures.start
    (record { drive = record { port = c.requires.split; heads = c.heads_stand_together.ensures.form; value_fits = c.requires.value; plan_fits = c.requires.plan }; net_fits = c.requires.net; high = c.requires.high })
    c.in_ok-run.ensures.runs c.in_ok-run.ensures.net.0 c.in_ok-run.ensures.net.1 c.in_ok-streams.streams c.as_slice-2.result.now c.in_ok-streams.ensures c.as_slice-2.ensures
    (λ trace. text_left trace.pieces) c.in_ok-header.header c.as_slice.result.now c.trace_of_run.result c.as_slice.ensures c.in_ok-header.ensures c.trace_of_run.ensures.finishes c.trace_of_run.ensures.text
