use Rattle.physical_stream.specs.Cycles.{cycle_in}
use Rattle.watch_text.specs.Statements.{plain_watch}
use Rattle.monitor_bench.specs.Running.{process_with}
use Rattle.monitor_bench.proofs.ProcessLemmas.{after_here, are_after-more, here, shown_here, sim_there}
use Rattle.monitor_bench.proofs.processes.Processes.edge.Goals as goal

pub edge-requires-clause-shown : goal.edge-requires-clause-shown
edge-requires-clause-shown c =
    shown_here c.args.watch.now c.requires.0 c.args.self.now c.requires.1.0 c.args.stream (cycle_in c.args.row) c.requires.1.1 c.as_slice.result.now c.index-as_slice-stream.result
    c.as_slice-2.result.now c.index-as_slice-stream-2.result c.as_slice-want.result.now c.as_slice-3.result.now c.index-as_slice-stream-3.result c.as_slice-process.result.now c.index_mut.result.now
    c.as_slice.ensures c.index-as_slice-stream.is c.as_slice-2.ensures c.index-as_slice-stream-2.is c.as_slice-want.ensures c.as_slice-3.ensures c.index-as_slice-stream-3.is
    c.as_slice-process.ensures c.index_mut.ensures.value

pub edge-requires-clause-after : goal.edge-requires-clause-after
edge-requires-clause-after c =
    after_here c.args.watch.now c.requires.0 c.args.self.now c.requires.1.0 c.args.stream (cycle_in c.args.row) c.requires.1.1 c.as_slice.result.now c.index-as_slice-stream.result
    c.as_slice-2.result.now c.index-as_slice-stream-2.result c.as_slice-want.result.now c.as_slice-3.result.now c.index-as_slice-stream-3.result c.as_slice-process.result.now c.index_mut.result.now
    c.as_slice.ensures c.index-as_slice-stream.is c.as_slice-2.ensures c.index-as_slice-stream-2.is c.as_slice-want.ensures c.as_slice-3.ensures c.index-as_slice-stream-3.is
    c.as_slice-process.ensures c.index_mut.ensures.value

pub returns : goal.returns
returns c cycles after =
    let there =
    sim_there c.args.watch.now c.requires.0 c.args.self.now c.requires.1.0 c.args.stream (cycle_in c.args.row) c.requires.1.1 c.as_slice.result.now c.index-as_slice-stream.result
    c.as_slice-2.result.now c.index-as_slice-stream-2.result c.as_slice-want.result.now c.as_slice-3.result.now c.index-as_slice-stream-3.result c.as_slice-process.result.now c.index_mut.result.now
    c.as_slice.ensures c.index-as_slice-stream.is c.as_slice-2.ensures c.index-as_slice-stream-2.is c.as_slice-want.ensures c.as_slice-3.ensures c.index-as_slice-stream-3.is
    c.as_slice-process.ensures c.index_mut.ensures.value in
    let is =
    here c.args.watch.now c.requires.0 c.args.self.now c.requires.1.0 c.args.stream (cycle_in c.args.row) c.requires.1.1 c.as_slice.result.now c.index-as_slice-stream.result
    c.as_slice-2.result.now c.index-as_slice-stream-2.result c.as_slice-want.result.now c.as_slice-3.result.now c.index-as_slice-stream-3.result c.as_slice-process.result.now c.index_mut.result.now
    c.as_slice.ensures c.index-as_slice-stream.is c.as_slice-2.ensures c.index-as_slice-stream-2.is c.as_slice-want.ensures c.as_slice-3.ensures c.index-as_slice-stream-3.is
    c.as_slice-process.ensures c.index_mut.ensures.value in
    are_after-more (plain_watch c.args.watch.now) cycles c.args.self.now after c.args.stream (cycle_in c.args.row)
    (process_with c.index-as_slice-stream.result.params c.as_slice-want.result.now c.as_slice-process.result.now) c.index_mut.result.now c.edge.new.self is there c.edge.ensures
