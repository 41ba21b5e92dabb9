use Rattle.std.proofs.Common.{ap, length, subst, sym, ◌∙◌}
use Rattle.type_split.specs.Streams.{plain_split}
use Rattle.tydi_io.specs.Faults.{Rose}
use Rattle.tydi_tool.specs.Ask.{Decides}
use Rattle.tydi_tool.specs.Commands.{against_ask}
use Rattle.tydi_tool.specs.Comparisons.{IsNewBeside}
use Rattle.tydi_tool.proofs.compare.compare_items.Goals as goal

pub compare_with-requires-clause-lists : goal.compare_with-requires-clause-lists
compare_with-requires-clause-lists g c = ap length c.new-reader.ensures.wants_are ∙ c.requires.lists

pub compare_with-requires-clause-new : goal.compare_with-requires-clause-new
compare_with-requires-clause-new g c =
    subst (λ wants. IsNewBeside (plain_split c.args.split.now) wants c.args.trace.now c.new-reader.result) (sym c.new-reader.ensures.wants_are) c.new-reader.ensures

pub returns : goal.returns
returns g c = record {
  decided = subst (λ wants. Decides (g.S.Store.files c.args.store.now) (g.S.Store.started c.args.store.now) (g.S.Store.started c.compare_with.new.store)
      (Rose (g.S.Store.faults c.args.store.now) (g.S.Store.faults c.compare_with.new.store)) (against_ask c.args.trace.now (plain_split c.args.split.now) wants) c.compare_with.result)
      c.new-reader.ensures.wants_are c.compare_with.ensures.decided;
}
