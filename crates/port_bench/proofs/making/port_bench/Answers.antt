use Rattle.std.proofs.Common.{arith}
use Rattle.logical_value.specs.Tree.{plain_port}
use Rattle.type_split.specs.Streams.{plain_split}
use Rattle.scheduler.specs.Planners.{rest_of, whole_of}
use Rattle.port_drive.specs.Starting.{runs_of_port}
use Rattle.testbench.specs.TextLeft.{text_left}
use Rattle.port_bench.proofs.MakingLemmas.{heads-params, runs-few, text-made, text-none}
use Rattle.port_bench.proofs.making.port_bench.Goals as goal

pub bench_of_run-requires-clause-few : goal.bench_of_run-requires-clause-few
bench_of_run-requires-clause-few c =
    runs-few (plain_split c.args.split.now) (plain_port c.args.value.now) c.args.plan c.requires.plan c.heads_stand_together.ensures.apart c.as_slice.result.now c.as_slice.ensures (runs_of_port c.in_ok-run.run') c.in_ok-run.ensures.runs

pub bench_of_run-requires-clause-params : goal.bench_of_run-requires-clause-params
bench_of_run-requires-clause-params c =
    heads-params (plain_split c.args.split.now) (plain_port c.args.value.now) c.args.plan c.requires.plan c.heads_stand_together.ensures.apart c.as_slice.result.now c.as_slice.ensures (runs_of_port c.in_ok-run.run') c.in_ok-run.ensures.runs
    c.in_ok-heads.heads c.in_ok-heads.ensures

pub bench_of_run-requires-clause-cycles : goal.bench_of_run-requires-clause-cycles
bench_of_run-requires-clause-cycles c = omega (arith, c.in_ok-run.ensures.start.number, c.in_ok-run.ensures.start.many, c.requires.plan.cycles)

pub returns-clause-text : goal.returns-clause-text
returns-clause-text c =
    text-made (plain_split c.args.split.now) (plain_port c.args.value.now) c.args.plan c.requires.plan c.heads_stand_together.ensures.apart c.as_slice.result.now c.as_slice.ensures (runs_of_port c.in_ok-run.run') c.in_ok-run.ensures.runs
    (λ bench. text_left rest_of whole_of bench.pieces) c.bench_of_run.result c.finished_runs_drive.ensures.drive c.in_ok-heads.heads c.in_ok-heads.ensures c.bench_of_run.ensures.text

pub returns-in_err-run-clause-text : goal.returns-in_err-run-clause-text
returns-in_err-run-clause-text c =
    text-none (plain_split c.args.split.now) (plain_port c.args.value.now) c.args.plan c.requires.plan c.heads_stand_together.ensures.apart c.as_slice.result.now c.as_slice.ensures
    (λ bench. text_left rest_of whole_of bench.pieces) c.from_residual-in_err-run.result c.in_err-run.field-0.0 c.from_residual-in_err-run.ensures.1 c.in_err-run.ensures.runs
