use Rattle.std.proofs.Common.{◌∙◌, List, length, refl, subst, ap}
use Rattle.physical_stream.specs.declared.item.Item.{Item}
use Rattle.scheduler.specs.Laws.{IsMultiple}
use Rattle.scheduler.specs.Planned.{plan_of}
use Rattle.scheduler.proofs.ScheduleLemmas.{is-planned, ready-start, rest-all}
use Rattle.scheduler.proofs.planner.Planner.new.Goals as goal

pub invariant_of-result : goal.invariant_of-result
invariant_of-result c = record {
  ready =
      ready-start c.args.p c.args.items c.args.plan.wishes c.args.plan.users c.in_ok-blank.blank c.in_ok-count.count
      (record { some = c.is_multiple.ensures.some; most = c.is_multiple.ensures.most; fit = c.requires.fit; masks = c.requires.masks; wide = c.requires.users }) c.in_ok-blank.ensures.value
      (c.in_ok-count.ensures ∙ ap (λ (items : List Item). length (plan_of c.args.p c.args.plan.wishes c.args.plan.users items)) c.as_slice-2.ensures);
}

pub returns : goal.returns
returns c = record {
  params = refl;
  all = record {
    multiple = subst (IsMultiple c.args.p) c.as_slice.ensures (c.is_multiple.ensures.multiple.0 c.if-not-is_multiple.false);
    planned = is-planned c.args.p c.args.items c.args.plan.wishes c.args.plan.users (record { some = c.is_multiple.ensures.some; most = c.is_multiple.ensures.most; fit = c.requires.fit; masks = c.requires.masks; wide = c.requires.users });
  };
  rest = rest-all c.args.p c.args.items c.args.plan.wishes c.args.plan.users c.in_ok-count.count;
}
