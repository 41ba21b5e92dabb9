use Rattle.std.proofs.Common.{List, map, subst}
use Rattle.std.proofs.lemmas.List.{take_all}
use Rattle.physical_stream.specs.declared.head.Head.{Head}
use Rattle.cycle_trace.specs.Surveying.{AreChecked, unseen}
use Rattle.cycle_trace.proofs.EndLemmas.{HaveCheckers-none, HaveCheckers-more}
use Rattle.cycle_trace.proofs.surveying.outcome.checkers_of.Goals as goal

pub heads-init : goal.heads-init
heads-init c = HaveCheckers-none c.args.heads.now _ c.in_ok-checkers.ensures.items

pub heads-preserved : goal.heads-preserved
heads-preserved c =
    rw c.in_ok-push.ensures.items
    (HaveCheckers-more c.args.heads.now c.heads.head-index c.heads.checkers.items c.in_ok-new.field-0 c.head-item.result c.heads.invariant c.heads-test.true c.head-item.is c.in_ok-new.ensures.params c.in_ok-new.ensures.stands)

pub returns : goal.returns
returns c = subst (λ (heads : List Head). AreChecked (map unseen heads) c.heads.checkers.items) (take_all c.heads.head-index c.args.heads.now c.heads-test.false) c.heads.invariant
