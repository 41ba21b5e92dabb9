use Rattle.reshape.proofs.filling.next_end.Goals as goal
use Rattle.scheduler.proofs.MarkLemmas.{close-goes}

pub returns-then-dim-least : goal.returns-then-dim-least
returns-then-dim-least c = close-goes c.args.p.now c.args.items.now.items c.args.place c.args.least c.index.result.now c.requires.within c.requires.fits c.index.ensures c.in-Close.dim c.in-Close.is c.if-dim-least.true
