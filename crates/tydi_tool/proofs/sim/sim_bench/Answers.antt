use Rattle.vhdl_meaning.specs.declared.run.SimRun.{SimRun}
use Rattle.bench_run.specs.Traces.{trace_text_of}
use Rattle.tydi_tool.specs.Benches.{ReadsRun}
use Rattle.tydi_tool.specs.Outcome.{output_answer}
use Rattle.tydi_tool.specs.Words.{text_file}
use Rattle.std.proofs.Common.{◌≡◌}
use Rattle.tydi_tool.proofs.AskLemmas.{DecidedBy-last}
use Rattle.tydi_tool.proofs.sim.sim_bench.Goals as goal

pub returns-in-Ok : goal.returns-in-Ok
returns-in-Ok g c = record {
  decided = DecidedBy-last (text_file c.args.run.now) SimRun (ReadsRun c.args.run.now c.args.bench) (λ read a. a ≡ output_answer (trace_text_of c.args.bench read)) _
      (g.S.Store.started c.args.store.now) _ _ _ c.in-Ok.read c.simulated.result c.in-Ok.ensures.asked c.simulated.ensures;
}
