use Rattle.std.proofs.Common.{arith}
use Rattle.std.proofs.lemmas.Nat.Gcd.{IsGcd-from_zero, IsGcd-from_mod}
use Rattle.tydi_base.proofs.frac.greatest_divisor.Goals as goal

pub remainders-preserved : goal.remainders-preserved
remainders-preserved c = (λ g h. c.remainders.invariant.0 g (IsGcd-from_mod _ _ g h), omega arith)

pub returns-clause-greatest : goal.returns-clause-greatest
returns-clause-greatest c = c.remainders.invariant.0 _ (IsGcd-from_zero _ _ (omega arith))
