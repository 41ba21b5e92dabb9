use Rattle.std.proofs.Common.{sym, arith}
use Rattle.std.proofs.lemmas.Bool.Decides.{nat_tests}
use Rattle.value_text.proofs.StartLemmas.{no_surplus}
use Rattle.value_text.proofs.leaves.surplus_leaf.Goals as goal

pub returns-then-count_starts-most : goal.returns-then-count_starts-most
returns-then-count_starts-most c = let is = c.count_starts.ensures in let few = c.if-count_starts-most.true in sym (no_surplus c.args.most c.args.text.now (grind (arith, nat_tests)))
