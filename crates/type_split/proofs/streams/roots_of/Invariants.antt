use Rattle.std.proofs.Common.{◌≡◌, ◌++◌, drop, map}
use Rattle.type_split.specs.Streams.{gathered, node_view, root_at}
use Rattle.type_split.proofs.streams.roots_of.Given as goal

-- the roots found, and those that the nodes left give, are all
abbrev pub invariant-nodes : goal.invariant-nodes
invariant-nodes l = l.roots ++ gathered root_at l.number (map node_view (drop l.number l.nodes)) ≡ gathered root_at 0 (map node_view l.nodes)
