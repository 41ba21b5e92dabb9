use Rattle.std.proofs.Common.{sym, subst}
use Rattle.physical_stream.specs.Cycles.{cycle_in}
use Rattle.watch_text.specs.Statements.{PlainWatch}
use Rattle.monitor_bench.specs.Standing.{AreAfter, with_cycle}
use Rattle.monitor_bench.proofs.watch_sim.WatchSim.edge.Goals as goal

pub returns : goal.returns
returns c watch cycles stands = (
  stands.0,
  subst (λ (w : PlainWatch). AreAfter w (with_cycle c.args.stream (cycle_in c.args.row) cycles) c.edge.new.self) stands.0
      (c.edge.ensures cycles (subst (λ (w : PlainWatch). AreAfter w cycles c.args.self.now.processes) (sym stands.0) stands.1)),
)
