use Rattle.std.proofs.Common.{length, ap, arith}
use Rattle.std.proofs.lemmas.Bool.Decides.{nat_tests}
use Rattle.scheduler.proofs.ScheduleLemmas.{plan-over}
use Rattle.scheduler.proofs.planning.count_transfers.Goals as goal

pub returns : goal.returns
returns c =
    let over = c.transfers-test.false in
    let none = ap length (plan-over c.args.p.now c.args.items.now c.args.plan.now.wishes c.args.plan.now.users c.transfers.place c.transfers.count (grind (arith, nat_tests))) in
    omega (arith, c.transfers.invariant.all, none)
