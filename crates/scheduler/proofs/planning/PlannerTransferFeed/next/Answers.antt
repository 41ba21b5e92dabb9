use Rattle.std.proofs.Common.{◌-◌, ◌<◌, List, length, sym, subst, arith}
use Rattle.std.proofs.lemmas.Bool.Decides.{nat_tests}
use Rattle.physical_stream.specs.declared.item.Item.{Item}
use Rattle.scheduler.proofs.ScheduleLemmas.{place-within}
use Rattle.scheduler.proofs.planning.PlannerTransferFeed.next.Goals as goal

pub next_transfer-self-requires-clause-place : goal.next_transfer-self-requires-clause-place
next_transfer-self-requires-clause-place c =
    let self = c.args.self.now in
    subst (λ (items : List Item). c.args.self.now.place < length items) (sym c.as_slice.ensures)
    (place-within self.params self.items self.plan.wishes self.plan.users self.place (self.count - self.left) self.ready.within (let e = c.if-self-eq0.false in let r = self.ready.rest in grind (arith, nat_tests)))
