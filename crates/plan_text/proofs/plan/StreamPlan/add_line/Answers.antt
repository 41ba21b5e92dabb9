use Rattle.std.proofs.Common.{◌≡◌, ◌∙◌, ◌-◌, drop, length, sym, take}
use Rattle.std.proofs.lemmas.List.{take_rest}
use Rattle.plan_text.specs.Blocks.{with_line}
use Rattle.plan_text.proofs.plan.StreamPlan.add_line.Goals as goal

pub returns-then-starts_with-3 : goal.returns-then-starts_with-3
unfolding with_line
returns-then-starts_with-3 c =
    let line = c.args.line.bytes.now in
    let rest : take (length line - 7) (drop 7 line) ≡ drop 7 line = take_rest line 7 in
    rw (
      sym c.starts_with.ensures.value ∙ c.if-starts_with.false,
      sym c.starts_with-else-starts_with.ensures.value ∙ c.if-starts_with-2.false,
      sym c.starts_with-else-starts_with-2.ensures.value ∙ c.if-starts_with-3.true,
      ← c.params.view_is,
      ← rest,
    ) c.add_wishes.ensures

pub returns-then-starts_with-4 : goal.returns-then-starts_with-4
unfolding with_line
returns-then-starts_with-4 c =
    let line = c.args.line.bytes.now in
    let rest : take (length line - 6) (drop 6 line) ≡ drop 6 line = take_rest line 6 in
    rw (
      sym c.starts_with.ensures.value ∙ c.if-starts_with.false,
      sym c.starts_with-else-starts_with.ensures.value ∙ c.if-starts_with-2.false,
      sym c.starts_with-else-starts_with-2.ensures.value ∙ c.if-starts_with-3.false,
      sym c.starts_with-else-starts_with-3.ensures.value ∙ c.if-starts_with-4.true,
      ← c.params.view_is,
      ← rest,
    ) c.add_users.ensures
