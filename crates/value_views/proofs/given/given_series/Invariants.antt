use Rattle.std.proofs.Common.{◌≤◌, length}
use Rattle.type_split.specs.Streams.{plain_split}
use Rattle.value_views.specs.Giving.{AreLeft, GiveFrom, plain_series}
use Rattle.value_views.specs.Joining.{plain_views}
use Rattle.value_views.proofs.given.given_series.Given as goal

abbrev pub decreases-nodes : goal.decreases-nodes
decreases-nodes l = l.number

-- the nodes from the number on have their series, and the views of those before it are left
abbrev pub invariant-nodes : goal.invariant-nodes
invariant-nodes l = record {
  within : l.number ≤ length l.split.nodes;
  given : GiveFrom (plain_split l.split) (plain_views l.fn.views) l.number (plain_series l.given.items);
  views : AreLeft (plain_split l.split) (plain_views l.fn.views) l.number (plain_views l.left);
}
