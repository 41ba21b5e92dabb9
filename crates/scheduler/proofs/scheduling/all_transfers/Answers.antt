use Rattle.std.proofs.Common.{◌∙◌, ◌++◌, List, length, ap, sym, arith}
use Rattle.std.proofs.lemmas.Bool.Decides.{nat_tests}
use Rattle.std.proofs.lemmas.List.{append-nil}
use Rattle.physical_stream.specs.declared.transfer.Transfer.{Transfer}
use Rattle.scheduler.proofs.ScheduleLemmas.{plan-over}
use Rattle.scheduler.proofs.scheduling.all_transfers.Goals as goal

pub returns : goal.returns
returns c =
    let over = c.transfers-test.false in
    sym (append-nil c.transfers.list)
    ∙ ap (λ (l : List Transfer). c.transfers.list ++ l) (sym (plan-over c.args.p.now c.args.items.now c.args.plan.now.wishes c.args.plan.now.users c.transfers.place (length c.transfers.list) (grind (arith, nat_tests))))
    ∙ c.transfers.invariant.all
