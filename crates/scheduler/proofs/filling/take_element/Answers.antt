use Rattle.std.proofs.Common.{arith}
use Rattle.std.proofs.lemmas.Bool.Decides.{nat_tests}
use Rattle.scheduler.proofs.filling.take_element.Goals as goal
use Rattle.scheduler.proofs.FillLemmas.{not-taken}

pub returns-then-not-takes-clause-written : goal.returns-then-not-takes-clause-written
returns-then-not-takes-clause-written c = λ parts long start.
    not-taken c.args.p.now c.args.lane c.requires.within c.args.takes _ c.args.into.now.content parts (let e = c.if-not-takes.true in grind (arith, nat_tests)) start
