use Rattle.std.proofs.Common.{◌∙◌, ◌+◌, ◌-◌, ◌^◌, ℕ, min, ap, arith}
use Rattle.std.proofs.lemmas.Bool.Decides.{nat_tests}
use Rattle.tydi_base.specs.Level.{number_of}
use Rattle.physical_stream.specs.Params.{Parameters}
use Rattle.scheduler.specs.Planned.{ones_below, lowest_one}
use Rattle.scheduler.proofs.AllowLemmas.{allows-all, allows-low, allows-between, ones-apart, ones-less}
use Rattle.scheduler.proofs.allowing.allowed_lanes.Goals as goal

pub returns-then-number-le4 : goal.returns-then-number-le4
returns-then-number-le4 c =
    let is = c.number-number.ensures.value ∙ ap (λ (p : Parameters). number_of p.level) c.p.view_is in
    let few = c.if-number-le4.true in
    allows-all c.args.p.now c.args.mask c.all_lanes.result (grind (arith, nat_tests)) (c.all_lanes.ensures ∙ ap (λ (p : Parameters). 2 ^ p.lanes - 1) c.p.view_is)

pub returns-then-number-eq5 : goal.returns-then-number-eq5
returns-then-number-eq5 c =
    let is = c.number-number.ensures.value ∙ ap (λ (p : Parameters). number_of p.level) c.p.view_is in
    let five = c.if-number-eq5.true in
    allows-low c.args.p.now c.args.mask c.all_lanes-then-number-eq5.result (grind (arith, nat_tests))
    (c.all_lanes-then-number-eq5.ensures ∙ ap (λ (n : ℕ). 2 ^ n - 1) (c.ones_below-ones.ensures.value ∙ ap (λ (p : Parameters). ones_below c.args.mask p.lanes) c.p.view_is))

pub overflow_sub-result : goal.overflow_sub-result
overflow_sub-result c =
    ones-less c.lowest_one-lowest.result (c.lowest_one-lowest.result + c.ones_below-ones.result) c.p.inside.lanes c.min.result c.all_lanes-3.result c.all_lanes-2.result c.lowest_one-lowest.ensures.low (omega arith) c.min.ensures c.all_lanes-3.ensures c.all_lanes-2.ensures

pub returns : goal.returns
returns c =
    let is = c.number-number.ensures.value ∙ ap (λ (p : Parameters). number_of p.level) c.p.view_is in
    let four = c.if-number-le4.false in
    let seven = c.if-number-ge7.false in
    let five = c.if-number-eq5.false in
    let lanes = ap (λ (p : Parameters). p.lanes) c.p.view_is in
    allows-between c.args.p.now c.args.mask (c.all_lanes-2.result - c.all_lanes-3.result) c.lowest_one-lowest.result c.ones_below-ones.result c.min.result (grind (arith, nat_tests))
    (c.lowest_one-lowest.ensures.value ∙ ap (λ (p : Parameters). lowest_one c.args.mask p.lanes 0) c.p.view_is) (c.ones_below-ones.ensures.value ∙ ap (λ (p : Parameters). ones_below c.args.mask p.lanes) c.p.view_is)
    (c.min.ensures ∙ ap (min (c.lowest_one-lowest.result + c.ones_below-ones.result)) lanes)
    (ones-apart c.all_lanes-3.result c.all_lanes-2.result c.lowest_one-lowest.result c.min.result c.all_lanes-3.ensures c.all_lanes-2.ensures)
