use Rattle.physical_stream.specs.Cycles.{cycle_in}
use Rattle.cycle_trace.specs.Trace.{cycles_of_stream}
use Rattle.watch_text.specs.Statements.{plain_watch}
use Rattle.trace_watch.proofs.RunLemmas.{can_edge, runs-more, some_streams}
use Rattle.trace_watch.proofs.watch_run.WatchRun.see.Goals as goal

pub nonzero_rem-stream : goal.nonzero_rem-stream
nonzero_rem-stream c = some_streams (plain_watch c.args.watch.now) c.requires.0 c.args.self.now c.requires.1.0 (cycle_in c.args.row) c.requires.1.1 c.len-streams.result c.len-streams.ensures

pub edge-requires : goal.edge-requires
edge-requires c = (
  cycles_of_stream c.requires.0,
  (
    c.requires.1.0.after,
    can_edge (plain_watch c.args.watch.now) c.requires.0 c.args.self.now c.requires.1.0 (cycle_in c.args.row) c.requires.1.1 c.len-streams.result c.len-streams.ensures,
  ),
)

pub returns : goal.returns
returns c t runs can =
    runs-more (plain_watch c.args.watch.now) t c.args.self.now runs (cycle_in c.args.row) can c.len-streams.result c.len-streams.ensures c.edge.new.self
    (c.edge.ensures (cycles_of_stream t) runs.after)
