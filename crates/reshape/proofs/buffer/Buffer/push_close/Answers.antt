use Rattle.std.proofs.Common.{arith}
use Rattle.reshape.proofs.PoolLemmas.{fit-close, held-close}
use Rattle.reshape.proofs.buffer.Buffer.push_close.Goals as goal

pub invariant_of-self-clause-fit : goal.invariant_of-self-clause-fit
invariant_of-self-clause-fit c = fit-close c.args.self.now.params c.args.self.now.items.items _ c.args.dim c.push_back_reserved.ensures.items c.requires.within c.args.self.now.fit

pub invariant_of-self-clause-total : goal.invariant_of-self-clause-total
invariant_of-self-clause-total c = let total = c.args.self.now.total in omega (arith, held-close c.args.self.now.items.items _ c.args.dim c.push_back_reserved.ensures.items, total)
