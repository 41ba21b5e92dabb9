use Rattle.std.proofs.Common.{◌∙◌, ◌+◌, ◌-◌, ◌*◌, ◌++◌, Bool, List, drop, ap, sym, arith}
use Rattle.std.proofs.lemmas.Bool.Decides.{nat_tests}
use Rattle.tydi_base.specs.Bits.{zero_bits}
use Rattle.physical_stream.specs.declared.item.Item.{Item}
use Rattle.scheduler.specs.Planned.{run_from}
use Rattle.scheduler.specs.Filling.{is_set, lane_with, marks}
use Rattle.scheduler.proofs.filling.put_lane.Goals as goal
use Rattle.scheduler.proofs.LaneLemmas.{takes-same, without-ends, with-ends}

pub returns-then-not-is_set-clause-filled : goal.returns-then-not-is_set-clause-filled
returns-then-not-is_set-clause-filled c = λ lanes here so.
    without-ends c.args.p.now lanes c.args.lane c.requires.within c.takes-takes.result (is_set c.args.way.ends c.args.lane) (drop c.args.place c.args.items.now) c.args.into.now c.take_element-at.new.into c.requires.content c.requires.last
    (here ∙ ap (λ (t : Bool). lane_with t (is_set c.args.way.ends c.args.lane) (drop c.args.place c.args.items.now))
    (sym (c.takes-takes.ensures ∙ takes-same c.args.way.allowed c.args.lane c.args.place c.args.way.stop c.args.items.now c.requires.place c.requires.stop)))
    so c.take_element-at.ensures.active c.take_element-at.ensures.written (let e = c.if-not-is_set.true in let f = c.is_set.ensures in grind (arith, nat_tests))

pub returns-clause-filled : goal.returns-clause-filled
returns-clause-filled c = λ lanes here so.
    with-ends c.args.p.now lanes c.args.lane c.requires.within c.takes-takes.result (is_set c.args.way.ends c.args.lane) (drop c.args.place c.args.items.now) c.args.into.now c.take_element-at.new.into c.requires.content c.requires.last
    (here ∙ ap (λ (t : Bool). lane_with t (is_set c.args.way.ends c.args.lane) (drop c.args.place c.args.items.now))
    (sym (c.takes-takes.ensures ∙ takes-same c.args.way.allowed c.args.lane c.args.place c.args.way.stop c.args.items.now c.requires.place c.requires.stop)))
    so c.take_element-at.ensures.active c.take_element-at.ensures.written (let e = c.if-not-is_set.false in let f = c.is_set.ensures in grind (arith, nat_tests)) c.mark_run.new.last
    (λ parts far begun. c.mark_run.ensures.marked parts far begun
    ∙ ap (λ (l : List Item). (parts ++ marks c.args.p.now.dims (run_from 0 l)) ++ zero_bits ((c.args.p.now.lanes - (c.args.lane + 1)) * c.args.p.now.dims)) c.take_element-at.ensures.behind)
