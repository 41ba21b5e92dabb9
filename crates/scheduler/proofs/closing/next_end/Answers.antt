use Rattle.scheduler.proofs.closing.next_end.Goals as goal
use Rattle.scheduler.proofs.MarkLemmas.{close-goes}

pub returns-then-dim-least : goal.returns-then-dim-least
returns-then-dim-least c = close-goes c.args.p.now c.args.items.now c.args.place c.args.least c.index-items-place.result c.requires.within c.requires.fits c.index-items-place.is c.in-Close.dim c.in-Close.is c.if-dim-least.true
