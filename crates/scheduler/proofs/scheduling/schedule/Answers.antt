use Rattle.std.proofs.Common.{sym, subst}
use Rattle.scheduler.specs.Planned.{Planned}
use Rattle.scheduler.proofs.ScheduleLemmas.{is-planned}
use Rattle.scheduler.proofs.scheduling.schedule.Goals as goal

pub returns : goal.returns
returns c = record {
  multiple = c.is_multiple.ensures.multiple.0 c.if-not-is_multiple.false;
  planned = subst (Planned c.args.p.now c.args.plan.now.wishes c.args.plan.now.users c.args.items.now) (sym c.in_ok-list.ensures)
      (is-planned c.args.p.now c.args.items.now c.args.plan.now.wishes c.args.plan.now.users
      (record { some = c.is_multiple.ensures.some; most = c.is_multiple.ensures.most; fit = c.requires.fit; masks = c.requires.masks; wide = c.requires.users }));
}
