use Rattle.std.proofs.Common.{sym}
use Rattle.bench_run.proofs.RowLemmas.{none_left-none}
use Rattle.bench_run.proofs.feeding.BenchRowsCycleFeed.left.Goals as goal

pub returns : goal.returns
returns c = sym (none_left-none c.args.self.now.sim.bench.heads c.args._stream)
