use Rattle.std.proofs.Common.{arith}
use Rattle.std.proofs.lemmas.List.{length-map}
use Rattle.type_split.specs.Streams.{node_view, plain_split}
use Rattle.value_views.specs.Joining.{plain_views}
use Rattle.value_views.proofs.GivenNodeLemmas.{behind-one, given-more}
use Rattle.value_views.proofs.given.given_series.Goals as goal

pub given_node-requires-clause-given : goal.given_node-requires-clause-given
given_node-requires-clause-given c =
    let some = c.nodes-test.true in (
      plain_views c.args.views,
      behind-one (plain_split c.args.split.now) (plain_views c.args.views) (plain_views c.nodes.left) c.nodes.number c.nodes.given.items c.as_slice.result.now (omega (arith, some)) c.as_slice.ensures.value c.nodes.invariant.given
          c.nodes.invariant.views,
    )

pub nodes-preserved : goal.nodes-preserved
nodes-preserved c =
    let split = plain_split c.args.split.now in
    let views = plain_views c.args.views in
    let count = length-map c.args.split.now.nodes node_view in
    let within = c.nodes.invariant.within in
    let some = c.nodes-test.true in
    let behind = behind-one split views (plain_views c.nodes.left) c.nodes.number c.nodes.given.items c.as_slice.result.now (omega (arith, some)) c.as_slice.ensures.value c.nodes.invariant.given c.nodes.invariant.views in
    let made = c.in_ok-series.ensures views behind.0 behind.1 in
    record {
      within = omega (arith, within);
      given = record {
        can = c.requires;
        given = given-more split views c.nodes.number c.nodes.given.items c.put.new.series.items c.in_ok-series.series (omega (arith, some)) (omega (arith, within, count))
            c.nodes.invariant.given.given made.0 c.put.ensures;
      };
      views = made.1;
    }
