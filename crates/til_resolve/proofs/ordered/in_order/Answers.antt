use Rattle.std.proofs.Common.{sym, ◌∙◌, arith}
use Rattle.til_resolve.proofs.OrderLemmas.{by_letters-shorter}
use Rattle.til_resolve.proofs.ordered.in_order.Goals as goal

pub returns-then-one-other : goal.returns-then-one-other
returns-then-one-other c =
    sym (c.names.invariant.rest ∙ by_letters-shorter c.args.one.now c.args.other.now c.names.index c.names-test.false (omega (arith, c.names.invariant.within, c.if-one-other.true)))
