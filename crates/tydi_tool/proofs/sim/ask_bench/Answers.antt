use Rattle.tydi_io.specs.Faults.{Rose}
use Rattle.tydi_tool.specs.Words.{bench_file}
use Rattle.tydi_tool.proofs.BenchLemmas.{asked-bench}
use Rattle.tydi_tool.proofs.sim.ask_bench.Goals as goal

pub returns-clause-well : goal.returns-clause-well
returns-clause-well g c =
    asked-bench (g.S.Store.files c.args.store.now) (bench_file c.args.bench.now) c.args.bench.now (g.S.Store.started c.args.store.now) (g.S.Store.started c.ask_text.new.store)
    (Rose (g.S.Store.faults c.args.store.now) (g.S.Store.faults c.ask_text.new.store)) c.ask_text.result c.ask_text.ensures.asked
