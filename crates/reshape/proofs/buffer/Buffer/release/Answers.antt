use Rattle.std.proofs.Common.{◌∙◌}
use Rattle.reshape.proofs.PoolLemmas.{drop-more}
use Rattle.reshape.proofs.buffer.Buffer.release.Goals as goal

pub items-preserved : goal.items-preserved
items-preserved c = record {
  items = drop-more c.args.self.now.items.items c.items.self.items.items _ c.items.counter c.items.invariant.items c.pop.ensures.items;
  kept = record {
    params = c.pop.ensures.kept.params ∙ c.items.invariant.kept.params;
    most = c.pop.ensures.kept.most ∙ c.items.invariant.kept.most;
    places = c.pop.ensures.kept.places ∙ c.items.invariant.kept.places;
  };
}
