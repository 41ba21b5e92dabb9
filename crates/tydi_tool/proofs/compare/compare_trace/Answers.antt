use Rattle.std.proofs.Common.{◌∙◌, ap, length, subst}
use Rattle.logical_value.specs.Tree.{plain_port}
use Rattle.trace_compare.specs.Texts.{Comparison}
use Rattle.type_split.specs.Streams.{plain_split}
use Rattle.tydi_io.specs.Faults.{Rose}
use Rattle.tydi_tool.specs.Ask.{Decides, Ends}
use Rattle.tydi_tool.specs.Commands.{against_ask}
use Rattle.tydi_tool.specs.Comparisons.{ReadsComparison, TellsComparison, items_of_value}
use Rattle.tydi_tool.specs.Words.{trace_file}
use Rattle.tydi_tool.proofs.AskLemmas.{Decides-wanted}
use Rattle.tydi_tool.proofs.CompareLemmas.{many-items}
use Rattle.tydi_tool.proofs.compare.compare_trace.Goals as goal

pub compare_items-requires-clause-lists : goal.compare_items-requires-clause-lists
compare_items-requires-clause-lists g c =
    let split = plain_split c.args.split.now in ap length c.in-Ok.ensures ∙ many-items split (plain_port c.args.value) 0 split.streams

pub returns-in-Ok : goal.returns-in-Ok
returns-in-Ok g c = record {
  decided = subst (λ wants. Decides (g.S.Store.files c.args.store.now) (g.S.Store.started c.args.store.now) (g.S.Store.started c.compare_items.new.store)
      (Rose (g.S.Store.faults c.args.store.now) (g.S.Store.faults c.compare_items.new.store)) (against_ask c.args.trace.now (plain_split c.args.split.now) wants) c.compare_items.result)
      c.in-Ok.ensures c.compare_items.ensures.decided;
}

pub returns-in-Err : goal.returns-in-Err
returns-in-Err g c =
    let split = plain_split c.args.split.now in
    let wants = items_of_value split c.args.value in
    record {
      decided = Decides-wanted (trace_file c.args.trace.now) Comparison (ReadsComparison split wants c.args.trace.now) (λ found. Ends (TellsComparison split c.args.trace.now found))
          (g.S.Store.files c.args.store.now) (g.S.Store.started c.args.store.now) (Rose (g.S.Store.faults c.args.store.now) (g.S.Store.faults c.args.store.now));
    }
