use Rattle.vhdl_text.specs.declared.bench.Bench.{Bench}
use Rattle.tydi_tool.specs.Benches.{ReadsBench}
use Rattle.tydi_tool.specs.Commands.{run_ask}
use Rattle.tydi_tool.specs.Words.{bench_file}
use Rattle.tydi_tool.proofs.AskLemmas.{DecidedBy-rest}
use Rattle.tydi_tool.proofs.sim.sim.Goals as goal

pub returns-in-Ok : goal.returns-in-Ok
returns-in-Ok g c = record {
  decided = DecidedBy-rest (bench_file c.args.bench.now) Bench (ReadsBench c.args.bench.now) (run_ask c.args.run.now) _ _
      (g.S.Store.started c.args.store.now) _ _ _ _ _ _ c.in-Ok.read c.sim_bench.result
      c.in-Ok.ensures.files c.in-Ok.ensures.later c.in-Ok.ensures.asked c.sim_bench.ensures.decided;
}
