use Rattle.std.proofs.Common.{◌∙◌, drop, ap}
use Rattle.plan_text.specs.declared.plan.Wish.{Wish}
use Rattle.scheduler.specs.Planned.{load_of}
use Rattle.scheduler.proofs.StepLemmas.{is-passed, passed-by}
use Rattle.scheduler.proofs.passing.pass_transfer.Goals as goal

pub returns-then-way : goal.returns-then-way
returns-then-way c =
    is-passed c.args.p.now c.args.items.now c.args.plan.now.wishes c.args.plan.now.users c.requires.can c.args.place c.args.number c.requires.place
    c.pass_packed.result c.pass_packed.new.room c.pass_packed.ensures.within c.pass_packed.ensures.room
    (c.pass_packed.ensures.behind ∙ c.way_of-way.ensures.packed c.if-way.true ∙ ap (λ (wish : Wish). (load_of c.args.p.now wish (drop c.args.place c.args.items.now)).rest) c.wish_at.ensures)

pub returns : goal.returns
returns c =
    passed-by c.args.p.now c.args.items.now c.args.plan.now.wishes c.args.plan.now.users c.requires.can c.args.place c.args.number c.requires.place
    c.next_transfer.result c.next_transfer.new.into c.next_transfer.ensures
