use Rattle.std.proofs.Common.{◌∙◌, length, sym, ap, refl}
use Rattle.physical_stream.specs.declared.transfer.Transfer.{Transfer}
use Rattle.scheduler.proofs.LoadLemmas.{length-zeros}
use Rattle.scheduler.proofs.StepLemmas.{user-there, user-none, user-wide}
use Rattle.scheduler.proofs.stepping.put_user.Goals as goal

pub copy_from-requires : goal.copy_from-requires
copy_from-requires c =
    ap (λ (t : Transfer). length t.user) c.requires.clear ∙ length-zeros c.args.p.now.user
    ∙ sym (user-wide c.args.p.now c.args.plan.now.users c.args.number c.in-Some.user.now c.requires.fit (sym c.in-Some.ensures.value))

pub returns-in-Some : goal.returns-in-Some
returns-in-Some c = record {
  content = refl;
  last = refl;
  stai = refl;
  endi = refl;
  strb = refl;
  user = c.copy_from.ensures ∙ user-there c.args.p.now c.args.plan.now.users c.args.number c.in-Some.user.now (sym c.in-Some.ensures.value);
}

pub returns-in-None : goal.returns-in-None
returns-in-None c = record {
  content = refl;
  last = refl;
  stai = refl;
  endi = refl;
  strb = refl;
  user = ap (λ (t : Transfer). t.user) c.requires.clear ∙ user-none c.args.p.now c.args.plan.now.users c.args.number (sym c.in-None.ensures.value);
}
