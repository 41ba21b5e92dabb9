use Rattle.tydi_tool.proofs.BenchLemmas.{ReadsBench-read, ReadsBench-refused}
use Rattle.tydi_tool.proofs.benches.read_bench.Goals as goal

pub returns-in-Ok : goal.returns-in-Ok
returns-in-Ok c = ReadsBench-read c.args.word.now c.args.bytes.now c.in-Ok.bench c.in-Ok.ensures

pub returns-in-Err : goal.returns-in-Err
returns-in-Err c = ReadsBench-refused c.args.word.now c.args.bytes.now c.in-Err.fault c.no_bench.result c.in-Err.ensures c.no_bench.ensures
