use Rattle.value_views.proofs.PacketLemmas.{count-done, count-next, count-none}
use Rattle.value_views.proofs.comparing.+counts.Goals as goal

pub count_off-returns-in-None : goal.count_off-returns-in-None
count_off-returns-in-None t c =
    count-none c.args.way.now c.args.depth c.args.values.now c.values.value-index c.value-item.result c.values.left c.args.count c.values-test.true c.value-item.is c.values.invariant c.in-None.ensures

pub count_off-values-preserved : goal.count_off-values-preserved
count_off-values-preserved t c =
    count-next c.args.way.now c.args.depth c.args.values.now c.values.value-index c.value-item.result c.values.left c.in-Some.rest c.args.count c.values-test.true c.value-item.is
    c.values.invariant c.in-Some.ensures

pub count_off-returns : goal.count_off-returns
count_off-returns t c = count-done c.args.way.now c.args.depth c.args.values.now c.values.value-index c.values.left c.args.count c.values-test.false c.values.invariant
