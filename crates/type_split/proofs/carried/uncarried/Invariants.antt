use Rattle.std.proofs.Common.{◌≡◌, drop, map, slice_get}
use Rattle.type_split.specs.Carried.{uncarried_paths}
use Rattle.type_split.specs.Streams.{node_view}
use Rattle.type_split.proofs.carried.uncarried.Given as goal

-- the first node that is not carried is one of those that are left
abbrev pub invariant-nodes : goal.invariant-nodes
invariant-nodes l = slice_get (uncarried_paths (map node_view (drop l.node-index l.node-items))) 0 ≡ slice_get (uncarried_paths (map node_view l.node-items)) 0
