use Rattle.logical_value.specs.Tree.{plain_port}
use Rattle.port_bench.specs.Benches.{bench_of_runs, bench_text_of}
use Rattle.vhdl_text.specs.Text.{bench_text}
use Rattle.type_split.specs.Streams.{plain_split}
use Rattle.tydi_tool.specs.Output.{lines_left}
use Rattle.tydi_tool.proofs.DriveLemmas.{made-refused, made-told, undriven-within}
use Rattle.tydi_tool.proofs.driving.driven_bench.Goals as goal

pub undriven-requires : goal.undriven-requires
undriven-requires c =
    undriven-within (plain_split c.args.split.now) (plain_port c.args.value.now) c.args.plan (λ runs. bench_text (bench_of_runs (plain_split c.args.split.now) runs)) c.in-Err.fault c.in-Err.ensures.text

pub returns-in-Ok : goal.returns-in-Ok
returns-in-Ok c =
    made-told (plain_split c.args.split.now) (bench_text_of (plain_split c.args.split.now) (plain_port c.args.value.now) c.args.plan) c.benched.result (lines_left c.in-Ok.bench.pieces) c.in-Ok.ensures.text
    c.benched.ensures

pub returns-in-Err : goal.returns-in-Err
returns-in-Err c =
    made-refused (plain_split c.args.split.now) (bench_text_of (plain_split c.args.split.now) (plain_port c.args.value.now) c.args.plan) c.undriven.result c.in-Err.fault c.in-Err.ensures.text
    c.undriven.ensures
