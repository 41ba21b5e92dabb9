use Rattle.tydi_tool.proofs.BenchLemmas.{ReadsRun-read, ReadsRun-refused}
use Rattle.tydi_tool.proofs.benches.read_run.Goals as goal

pub returns-in-Ok : goal.returns-in-Ok
returns-in-Ok c = ReadsRun-read c.args.word.now c.args.bench.now c.args.bytes.now c.in-Ok.found c.in-Ok.ensures

pub returns-in-Err : goal.returns-in-Err
returns-in-Err c = ReadsRun-refused c.args.word.now c.args.bench.now c.args.bytes.now c.in-Err.fault c.no_run.result c.in-Err.ensures c.no_run.ensures
