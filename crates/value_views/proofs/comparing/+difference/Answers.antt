use Rattle.std.proofs.Common.{arith}
use Rattle.value_views.proofs.PacketLemmas.{is-none, is-some, members-agree, members-differ, members-fewer, members-more, members-past}
use Rattle.value_views.proofs.comparing.+difference.Goals as goal

pub returns-then-number-series : goal.returns-then-number-series
returns-then-number-series t c =
    members-more c.args.way.now c.args.depth c.members.number c.args.around.now c.args.series.now _ (let some = c.if-depth-eq0.false in omega (arith, some)) c.members-test.true
    c.if-number-series.true c.members.invariant.rest

pub returns-then-is_some : goal.returns-then-is_some
returns-then-is_some t c =
    members-differ c.args.way.now c.args.depth c.members.number c.args.around.now c.args.series.now c.index-around-number.result c.index-series-number.result c.members_of.result.now
    c.members_of-members.result.now c.difference.result _ c.members-test.true (let less = c.if-number-series.false in omega (arith, less)) c.index-around-number.is c.index-series-number.is
    (record { some = (let some = c.if-depth-eq0.false in omega (arith, some)); ones_are = c.members_of.ensures; others_are = c.members_of-members.ensures; found_is = c.difference.ensures })
    (is-some c.difference.result c.is_some.result c.is_some.ensures c.if-is_some.true) c.members.invariant.rest

pub members-preserved : goal.members-preserved
members-preserved t c = record {
  around = (let less = c.members-test.true in omega (arith, less));
  series = (let less = c.if-number-series.false in omega (arith, less));
  rest = members-agree c.args.way.now c.args.depth c.members.number c.args.around.now c.args.series.now c.index-around-number.result c.index-series-number.result c.members_of.result.now
      c.members_of-members.result.now c.difference.result _ c.members-test.true (let less = c.if-number-series.false in omega (arith, less)) c.index-around-number.is c.index-series-number.is
      (record { some = (let some = c.if-depth-eq0.false in omega (arith, some)); ones_are = c.members_of.ensures; others_are = c.members_of-members.ensures; found_is = c.difference.ensures })
      (is-none c.difference.result c.is_some.result c.is_some.ensures c.if-is_some.false) c.members.invariant.rest;
}

pub returns-then-number-series-2 : goal.returns-then-number-series-2
returns-then-number-series-2 t c =
    members-fewer c.args.way.now c.args.depth c.members.number c.args.around.now c.args.series.now _ (let some = c.if-depth-eq0.false in omega (arith, some))
    (let past = c.members-test.false in omega (arith, past)) c.if-number-series-2.true c.members.invariant.rest

pub returns-else-number-series-2 : goal.returns-else-number-series-2
returns-else-number-series-2 t c =
    members-past c.args.way.now c.args.depth c.members.number c.args.around.now c.args.series.now _ (let some = c.if-depth-eq0.false in omega (arith, some))
    (let past = c.members-test.false in omega (arith, past)) (let past = c.if-number-series-2.false in omega (arith, past)) c.members.invariant.rest
