use Rattle.std.proofs.Common.{◌∙◌, sym}
use Rattle.trace_compare.proofs.KeepLemmas.{found_some, takes-found}
use Rattle.trace_compare.proofs.stream_compared.StreamCompared.take.Goals as goal

pub returns-then-is_some : goal.returns-then-is_some
returns-then-is_some c = takes-found c.args.want.now c.args.cycle c.args.items.now c.args.self.now (found_some c.args.self.now.other (sym c.is_some.ensures ∙ c.if-is_some.true))
