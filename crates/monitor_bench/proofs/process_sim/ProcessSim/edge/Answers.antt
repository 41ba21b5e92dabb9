use Rattle.physical_stream.specs.Cycles.{cycle_in}
use Rattle.monitor_bench.specs.Running.{process_with}
use Rattle.monitor_bench.proofs.EdgeLemmas.{is_after-more}
use Rattle.monitor_bench.proofs.process_sim.ProcessSim.edge.Goals as goal

pub returns : goal.returns
returns c cycles after =
    is_after-more (process_with c.args.p.now c.args.want.now c.args.process.now) cycles (cycle_in c.args.row) c.args.self.now c.row.new.self c.reported-self.result after c.row.ensures
    c.reported-self.ensures
