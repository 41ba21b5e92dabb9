use Rattle.std.proofs.Common.{◌∙◌, drop, ap}
use Rattle.plan_text.specs.declared.plan.Wish.{Wish}
use Rattle.scheduler.specs.Lanes.{transfer_of}
use Rattle.scheduler.specs.Planned.{first_wish, load_of}
use Rattle.scheduler.proofs.StepLemmas.{is-next}
use Rattle.scheduler.proofs.stepping.next_transfer.Goals as goal

pub returns : goal.returns
returns c =
    let p = c.args.p.now in
    let left = drop c.args.place c.args.items.now in
    is-next p c.args.items.now c.args.plan.now.wishes c.args.plan.now.users c.requires.can c.args.place c.args.number c.requires.place c.fill_transfer.result c.fill_transfer.new.into c.fill_transfer.ensures.within
    (c.fill_transfer.ensures.filled ∙ ap (λ (wish : Wish). transfer_of p (load_of p wish left).lanes c.put_user.new.into.user) c.wish_at.ensures
    ∙ ap (transfer_of p (load_of p (first_wish p (drop c.args.number c.args.plan.now.wishes)) left).lanes) c.put_user.ensures.user)
    (c.fill_transfer.ensures.rest ∙ ap (λ (wish : Wish). (load_of p wish left).rest) c.wish_at.ensures)
