use Rattle.std.proofs.Common.{◌≤◌, List, length}
use Rattle.type_split.specs.Streams.{plain_split}
use Rattle.value_views.specs.Filling.{AreFilled, IsFilling}
use Rattle.value_views.specs.Giving.{plain_series}
use Rattle.value_views.specs.Series.{NodeSeries}
use Rattle.value_views.specs.Taking.{left}
use Rattle.value_views.proofs.PortFillLemmas.{IsFront}
use Rattle.value_views.proofs.joining.fill_port.Given as goal

abbrev pub decreases-nodes : goal.decreases-nodes
decreases-nodes l = length l.rest.items

-- the nodes whose series are no longer there are filled
abbrev pub invariant-nodes : goal.invariant-nodes
invariant-nodes l = record {
  within : length l.rest.items ≤ length l.split.nodes;
  front : IsFront l.rest.items l.fn.given.items;
  fills : (all : List NodeSeries) → AreFilled (plain_split l.split) (plain_series l.fn.given.items) all
      → IsFilling (plain_split l.split) all (length l.rest.items) (left l.filling) (plain_series l.roots);
}
