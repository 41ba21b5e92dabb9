use Rattle.watch_text.proofs.SoFarLemmas.{none-is}
use Rattle.watch_text.proofs.so_far.SoFar.has_none.Goals as goal

pub returns : goal.returns
returns c = none-is c.args.self.now.stmts c.is_empty.result c.is_empty.ensures.0 c.is_empty.ensures.1
