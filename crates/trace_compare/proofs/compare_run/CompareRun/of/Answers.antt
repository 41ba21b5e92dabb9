use Rattle.std.proofs.Common.{refl}
use Rattle.type_split.specs.Streams.{plain_split}
use Rattle.trace_compare.proofs.RunLemmas.{runs-begun}
use Rattle.trace_compare.proofs.compare_run.CompareRun.of.Goals as goal

pub returns : goal.returns
returns c = runs-begun (plain_split c.args.split.now) c.args.wants.now c.args.header.now _ c.requires.lists c.requires.header c.requires.same c.in_ok-states.ensures refl
