use Rattle.std.proofs.Common.{◌≡◌, ℕ, [], subst, arith}
use Rattle.physical_stream.specs.Items.{lane_items, parts_below}
use Rattle.complexity_rules.specs.Walk.{Finds}
use Rattle.complexity_rules.proofs.WalkLemmas.{Finds-place}
use Rattle.complexity_rules.proofs.walk.Walk.over_lanes.Goals as goal

pub lanes-preserved-then-lane-count : goal.lanes-preserved-then-lane-count
lanes-preserved-then-lane-count c = record {
  within = omega arith;
  shows = c.lanes.invariant.shows;
  found =
      λ begins f. Finds-place c.args.p.now.dims begins [] _ c.next_marked-marked.result c.over_lane-walk.result
      (c.over_lane-walk.ensures.found begins _ (c.over_unmarked-walk.ensures.found begins (c.lanes.invariant.found begins f)));
  few = omega arith;
}

pub lanes-preserved : goal.lanes-preserved
lanes-preserved c = record {
  within = omega arith;
  shows = c.lanes.invariant.shows;
  found = λ begins f. c.over_unmarked-walk.ensures.found begins (c.lanes.invariant.found begins f);
  few = c.over_unmarked-walk.ensures.few;
}

pub returns-clause-found : goal.returns-clause-found
returns-clause-found c begins f =
    let all : c.lanes.lane ≡ c.args.count = omega arith in
    subst (λ (n : ℕ). Finds c.args.p.now.dims begins (parts_below (lane_items c.args.p.now c.args.transfer.now) n) c.lanes.walk) all (c.lanes.invariant.found begins f)
