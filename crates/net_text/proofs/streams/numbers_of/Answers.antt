use Rattle.std.proofs.Common.{◌-◌, ◌∙◌, ap, arith, sym}
use Rattle.type_split.specs.declared.split.Phys.{Phys}
use Rattle.plan_text.proofs.StreamLemmas.{FindsFirst-more}
use Rattle.net_text.proofs.streams.numbers_of.Goals as goal

pub streams-preserved : goal.streams-preserved
streams-preserved c =
    let some = c.streams-test.true in
    let few = c.streams.invariant.1 in (
      FindsFirst-more c.streams.numbers c.insert.new.self (c.streams.left - 1) c.streams.left c.args.list.now c.index-list-left.result c.in_ok-try_clone.field-0
          c.streams.invariant.0 (omega (arith, some)) (omega (arith, some, few)) c.index-list-left.is (c.in_ok-try_clone.ensures ∙ ap (λ (s : Phys). s.path) (sym c.index-list-left.is)) c.in_ok-insert.ensures.updates.0,
      omega (arith, some, few),
    )
