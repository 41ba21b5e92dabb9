use Rattle.std.proofs.Common.{refl, [], ap, arith, map}
use Rattle.type_split.specs.Streams.{node_view}
use Rattle.value_gen.specs.Leaves.{leaves_of_roots}
use Rattle.value_gen.specs.Made.{roots_from}
use Rattle.value_gen.proofs.RoomLemmas.{failed, roots-fails, roots-more, roots-next}
use Rattle.value_gen.proofs.making.Making.roots.Goals as goal

pub roots-preserved : goal.roots-preserved
roots-preserved c = record {
  made = roots-next c.args.count (map node_view c.args.split.now.nodes) c.as_slice-root-items.result.now c.roots.root-index _ _ c.roots.found c.roots.self.draws.last c.in_ok-series.series
      c.series.new.self.draws.last c.push.new.self _ c.roots-test.true refl c.in_ok-series.ensures.made c.in_ok-push.ensures.ok c.roots.invariant.made;
  room = omega (arith, roots-more c.roots.found c.in_ok-series.series, ap leaves_of_roots c.in_ok-push.ensures.ok, c.in_ok-series.ensures.fills, c.roots.invariant.room);
}

pub returns-in_err-series-clause-fills : goal.returns-in_err-series-clause-fills
returns-in_err-series-clause-fills c =
    failed leaves_of_roots (roots_from c.args.count (map node_view c.args.split.now.nodes) c.args.split.now.roots [] c.args.self.now.draws.last) c.args.self.now.room _ c.from_residual.result
    c.in_err-series.field-0.0 c.from_residual.ensures.1
    (roots-fails c.args.count (map node_view c.args.split.now.nodes) c.as_slice-root-items.result.now c.args.split.now.roots c.roots.root-index _ _ c.roots.found c.roots.self.draws.last c.args.self.now.draws.last
    c.roots.self.room c.args.self.now.room c.series.new.self.room c.series.new.self.room c.in_err-series.field-0.0 c.roots-test.true refl c.roots.invariant.made c.roots.invariant.room
    c.in_err-series.ensures.fills)
