use Rattle.std.proofs.Common.{below_more}
use Rattle.til_resolve.proofs.chains.are_links.Goals as goal

pub numbers-preserved : goal.numbers-preserved
numbers-preserved c = below_more _ _ c.numbers.invariant (c.is_link.ensures.0 c.if-not-is_link.false)
