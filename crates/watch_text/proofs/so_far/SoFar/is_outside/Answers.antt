use Rattle.watch_text.proofs.SoFarLemmas.{outside-is}
use Rattle.watch_text.proofs.so_far.SoFar.is_outside.Goals as goal

pub returns : goal.returns
returns c = outside-is c.args.self.now.begun c.is_empty.result c.is_empty.ensures.0 c.is_empty.ensures.1
