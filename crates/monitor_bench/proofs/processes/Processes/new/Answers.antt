use Rattle.std.proofs.Common.{◌+◌, ◌≤◌, List, length, refl, sym, subst, arith}
use Rattle.std.proofs.lemmas.Option.{slice_get_read}
use Rattle.watch_text.specs.Statements.{plain_watch}
use Rattle.monitor_bench.specs.declared.process_sim.ProcessSim.{ProcessSim}
use Rattle.monitor_bench.proofs.ProcessLemmas.{AreFresh, fresh-more, fresh_after}
use Rattle.monitor_bench.proofs.processes.Processes.new.Goals as goal

pub streams-preserved : goal.streams-preserved
streams-preserved c =
    let heads = c.as_slice-head-items.result.now in
    let here = slice_get_read heads (length heads) c.streams.head-index c.head-item.result refl c.streams-test.true c.head-item.is in
    subst (λ (l : List ProcessSim). AreFresh heads (c.streams.head-index + 1) l) (sym {A = List ProcessSim} c.in_ok-push.ensures.items)
    (fresh-more heads c.streams.head-index c.head-item.result c.streams.each.items c.in_ok-new.field-0 c.streams.invariant here c.in_ok-new.ensures)

pub returns : goal.returns
returns c =
    let all : length c.as_slice-head-items.result.now ≤ c.streams.head-index = omega (arith, c.streams-test.false) in
    fresh_after (plain_watch c.args.watch.now) (record { each = c.streams.each }) c.as_slice-head-items.result.now c.streams.head-index c.requires c.as_slice-head-items.ensures all c.streams.invariant
